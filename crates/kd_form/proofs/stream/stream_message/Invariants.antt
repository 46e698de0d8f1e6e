use Rattle.kd_form.proofs.Streaming.{SoFar, ◌-◌, read_limit, port}
use Rattle.kd_form.proofs.stream.stream_message.Given as goal

-- the reader holds what was read so far, and no port failed
abbrev pub invariant-loop-read : goal.invariant-loop-read
invariant-loop-read g l =
    SoFar (g.M.ChunkReader.message l.context) (g.M.ChunkReader.holds l.context l.reader)
    (port g.R.Source.remaining g.R.Source.has_failed l.fn.source l.source)
    (port g.W.Sink.taken g.W.Sink.has_failed l.fn.sink l.sink) l.read

abbrev pub decreases-loop-read : goal.decreases-loop-read
decreases-loop-read g l = read_limit - l.read

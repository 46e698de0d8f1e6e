use Rattle.std.{proofs.Common.{◌≡◌, ◌-◌, ◌≤◌, length, take}, specs.Io.KnownBytes.Appends}
use Rattle.kd_curator.proofs.buffered_sink.pass_on.Given as goal

abbrev pub invariant-loop-done : goal.invariant-loop-done
invariant-loop-done g l = record {
  within : l.done ≤ length l.bytes;
  taken : Appends (g.W.Sink.taken l.initial.sink) (g.W.Sink.taken l.sink) (take l.done l.bytes);
  failed : g.W.Sink.has_failed l.sink ≡ g.W.Sink.has_failed l.initial.sink;
}

abbrev pub decreases-loop-done : goal.decreases-loop-done
decreases-loop-done g l = length l.bytes - l.done

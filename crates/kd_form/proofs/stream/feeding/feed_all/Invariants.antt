use Rattle.kd_form.proofs.Prelude.{[], ◌≡◌, ◌-◌, Ok, length, take, port, HasRoom, IsFeedAllAnswer}
use Rattle.kd_form.proofs.stream.feeding.feed_all.Given as goal

-- the bytes so far were fed, and the sink didn't fail
abbrev pub invariant-loop-byte : goal.invariant-loop-byte
invariant-loop-byte g l = record {
  room : HasRoom (g.M.MessageReader.message l.day) (g.M.MessageReader.holds l.day l.reader)
      (length l.bytes - l.byte-index);
  fed : IsFeedAllAnswer (g.M.MessageReader.message l.day) (g.M.MessageReader.holds l.day l.fn.reader)
      (g.M.MessageReader.holds l.day l.reader)
      (take l.byte-index l.bytes) (port g.W.Sink.taken g.W.Sink.has_failed l.fn.sink l.sink) (Ok tt);
  empty : l.output.items ≡ [];
  well : g.W.Sink.has_failed l.sink ≡ g.W.Sink.has_failed l.fn.sink;
}

use Rattle.std.proofs.Common.{◌≡◌, ◌+◌, ◌-◌, ◌≤◌, length}
use Rattle.{std.specs.Io.KnownBytes.Consumes, kd_tables.specs.Ports.read_limit}
use Rattle.kd_host.proofs.content.read_whole.Given as goal

-- the bytes kept are what was read so far, and no get failed
abbrev pub invariant-loop-buffer : goal.invariant-loop-buffer
invariant-loop-buffer g l = record {
  within : length l.bytes.items ≤ read_limit + 1;
  room : length l.buffer ≡ 4096;
  given : Consumes (g.S.Source.remaining l.fn.source) (g.S.Source.remaining l.source) l.bytes.items;
  well : g.S.Source.has_failed l.source ≡ g.S.Source.has_failed l.fn.source;
}

abbrev pub decreases-loop-buffer : goal.decreases-loop-buffer
decreases-loop-buffer g l = read_limit + 1 - length l.bytes.items

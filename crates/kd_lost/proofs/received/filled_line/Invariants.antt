use Rattle.std.proofs.Common.{◌≡◌, map, take}
use Rattle.kd_lost.specs.DamagedPart.{filled_byte}
use Rattle.kd_lost.proofs.received.filled_line.Given as goal

abbrev pub invariant-loop-byte : goal.invariant-loop-byte
invariant-loop-byte l = l.kept.items ≡ take 64 (map filled_byte (take l.byte-index l.line))

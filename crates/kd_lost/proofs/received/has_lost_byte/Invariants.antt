use Rattle.std.proofs.Common.{IsFalse}
use Rattle.std.specs.List.{AllWithin}
use Rattle.kd_lost.specs.Lost.{is_lost}
use Rattle.kd_lost.proofs.received.has_lost_byte.Given as goal

abbrev pub invariant-loop-byte : goal.invariant-loop-byte
invariant-loop-byte l = AllWithin (λ byte. IsFalse (is_lost byte)) l.line 0 l.byte-index

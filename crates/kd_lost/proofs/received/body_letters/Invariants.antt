use Rattle.std.proofs.Common.{◌≡◌, take}
use Rattle.kd_lost.specs.DamagedPart.{body_letters}
use Rattle.kd_lost.proofs.received.body_letters.Given as goal

abbrev pub invariant-loop-byte : goal.invariant-loop-byte
invariant-loop-byte l = l.letters.items ≡ body_letters (take l.byte-index l.body)

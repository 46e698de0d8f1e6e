use Rattle.std.proofs.Common.{◌≡◌, take}
use Rattle.kd_lost.specs.Lost.{received_letters}
use Rattle.kd_lost.proofs.received.received_letters.Given as goal

abbrev pub invariant-loop-byte : goal.invariant-loop-byte
invariant-loop-byte l = l.letters.items ≡ take 525 (received_letters (take l.byte-index l.body))

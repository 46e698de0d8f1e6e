use Rattle.std.proofs.Common.{◌≡◌, take}
use Rattle.kd_lost.specs.Lost.{filled}
use Rattle.kd_lost.proofs.body.filled.Given as goal

abbrev pub invariant-loop-got : goal.invariant-loop-got
invariant-loop-got l = l.letters.items ≡ filled (take l.got-index l.received)

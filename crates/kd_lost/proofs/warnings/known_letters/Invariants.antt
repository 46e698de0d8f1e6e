use Rattle.std.proofs.Common.{◌≡◌, take, map, Some}
use Rattle.kd_lost.proofs.warnings.known_letters.Given as goal

abbrev pub invariant-loop-got : goal.invariant-loop-got
invariant-loop-got l = take l.got-index l.received ≡ map Some l.letters.items

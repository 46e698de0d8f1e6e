use Rattle.std.proofs.Common.{◌≢◌, None}
use Rattle.std.specs.List.{AllWithin}
use Rattle.kd_lost.proofs.warnings.has_lost_letter.Given as goal

abbrev pub invariant-loop-got : goal.invariant-loop-got
invariant-loop-got l = AllWithin (λ got. got ≢ None) l.received 0 l.got-index

use Rattle.std.specs.List.{AllWithin}
use Rattle.kd_lost.specs.Lost.{IsLetterFor}
use Rattle.kd_lost.proofs.copies.has_other.Given as goal

abbrev pub invariant-loop-got : goal.invariant-loop-got
invariant-loop-got l = AllWithin (λ got. IsLetterFor got l.letter) l.copies 0 l.got-index

use Rattle.std.proofs.Common.{arith}
use Rattle.std.proofs.lemmas.Grind.{elements}
use Rattle.kd_lost.proofs.copies.has_other.Goals as goal

pub returns-then-not-is_letter_for-clause-other : goal.returns-then-not-is_letter_for-clause-other
returns-then-not-is_letter_for-clause-other c = grind (arith, elements)

pub loop-got-preserved : goal.loop-got-preserved
loop-got-preserved c = grind (arith, elements)

pub returns-clause-none : goal.returns-clause-none
returns-clause-none c = grind (arith, elements)

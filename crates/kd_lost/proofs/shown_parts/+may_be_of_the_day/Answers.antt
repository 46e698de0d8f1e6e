use Rattle.std.proofs.Common.{arith}
use Rattle.std.proofs.lemmas.Grind.{elements}
use Rattle.kd_lost.proofs.shown_parts.+may_be_of_the_day.Goals as goal

pub returns-then-not-is_of_other_day : goal.returns-then-not-is_of_other_day
returns-then-not-is_of_other_day t c = grind (arith, elements)

pub returns-else-not-is_of_other_day : goal.returns-else-not-is_of_other_day
returns-else-not-is_of_other_day t c = grind (arith, elements)

use Rattle.std.proofs.Common.{arith}
use Rattle.std.proofs.lemmas.Grind.{common_steps}
use Rattle.kd_lost.proofs.shown_parts.+are_in_order.Goals as goal

pub returns-then-before-numbers : goal.returns-then-before-numbers
returns-then-before-numbers t c = grind (arith, common_steps)

pub returns-else-before-numbers : goal.returns-else-before-numbers
returns-else-before-numbers t c = grind (arith, common_steps)

pub returns-in-None : goal.returns-in-None
returns-in-None t c = grind (arith, common_steps)

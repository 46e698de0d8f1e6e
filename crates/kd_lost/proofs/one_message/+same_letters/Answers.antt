use Rattle.std.proofs.Common.{arith}
use Rattle.std.proofs.lemmas.Grind.{common_steps}
use Rattle.kd_lost.proofs.one_message.+same_letters.Goals as goal

pub returns-in-empty-other : goal.returns-in-empty-other
returns-in-empty-other t c = grind (arith, common_steps)

pub returns-in-len1-up-other : goal.returns-in-len1-up-other
returns-in-len1-up-other t c = grind (arith, common_steps)

pub returns-in-empty-other-2 : goal.returns-in-empty-other-2
returns-in-empty-other-2 t c = grind (arith, common_steps)

pub returns-then-eq : goal.returns-then-eq
returns-then-eq t c = grind (arith, common_steps)

pub returns-else-eq : goal.returns-else-eq
returns-else-eq t c = grind (arith, common_steps)

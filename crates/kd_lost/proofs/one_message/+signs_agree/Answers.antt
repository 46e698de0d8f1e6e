use Rattle.std.proofs.Common.{arith}
use Rattle.std.proofs.lemmas.Grind.{common_steps}
use Rattle.kd_lost.proofs.one_message.+signs_agree.Goals as goal

pub returns : goal.returns
returns t c = grind (arith, common_steps)

pub returns-2 : goal.returns-2
returns-2 t c = grind (arith, common_steps)

use Rattle.std.proofs.Common.{arith}
use Rattle.std.proofs.lemmas.Grind.{common_steps}
use Rattle.kd_lost.proofs.warnings.+is_lost_in_both.Goals as goal

pub returns : goal.returns
returns t c = grind (arith, common_steps)

pub returns-2 : goal.returns-2
returns-2 t c = grind (arith, common_steps)

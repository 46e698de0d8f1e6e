use Rattle.std.proofs.Common.{arith}
use Rattle.std.proofs.lemmas.Grind.{common_steps}
use Rattle.kd_lost.proofs.heading_line.+leading_signs.Goals as goal

pub returns-clause-signs : goal.returns-clause-signs
returns-clause-signs t c = grind (arith, common_steps)

pub returns-clause-few : goal.returns-clause-few
returns-clause-few t c = grind (arith, common_steps)

pub returns-2-clause-signs : goal.returns-2-clause-signs
returns-2-clause-signs t c = grind (arith, common_steps)

use Rattle.std.proofs.Common.{arith}
use Rattle.std.proofs.lemmas.Grind.{common_steps}
use Rattle.kd_state.proofs.costs.nearest_standing.Goals as goal

pub returns-in_default-Some-clause-nearest : goal.returns-in_default-Some-clause-nearest
returns-in_default-Some-clause-nearest c = grind (arith, common_steps)

pub returns-in_default-clause-nearest : goal.returns-in_default-clause-nearest
returns-in_default-clause-nearest c = grind (arith, common_steps)

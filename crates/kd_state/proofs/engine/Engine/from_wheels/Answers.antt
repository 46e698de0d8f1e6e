use Rattle.std.proofs.Common.{arith}
use Rattle.std.proofs.lemmas.Grind.{common_steps}
use Rattle.kd_state.proofs.engine.Engine.from_wheels.Goals as goal

pub returns : goal.returns
returns c = grind (arith, common_steps)

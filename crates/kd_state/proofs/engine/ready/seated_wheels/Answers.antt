use Rattle.std.proofs.Common.{arith}
use Rattle.std.proofs.lemmas.Grind.{common_steps}
use Rattle.kd_state.proofs.engine.ready.seated_wheels.Goals as goal

pub returns : goal.returns
returns c = grind (arith, common_steps)

pub returns-in_err-seated_wheel : goal.returns-in_err-seated_wheel
returns-in_err-seated_wheel c = grind (arith, common_steps)

pub loop-seated-preserved : goal.loop-seated-preserved
loop-seated-preserved c = grind (arith, common_steps)

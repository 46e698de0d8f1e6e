use Rattle.std.proofs.Common.{arith}
use Rattle.std.proofs.lemmas.Grind.{common_steps}
use Rattle.kd_state.proofs.prover_facts.learn_standings.Goals as goal

pub loop-bar-preserved : goal.loop-bar-preserved
loop-bar-preserved c = grind (arith, common_steps)

use Rattle.std.proofs.Common.{arith}
use Rattle.std.proofs.lemmas.Grind.{common_steps, elements}
use Rattle.kd_state.proofs.prover_facts.learn_cable_letters.Goals as goal

pub loop-cable-preserved : goal.loop-cable-preserved
loop-cable-preserved c = grind (arith, common_steps)

pub returns-clause-each : goal.returns-clause-each
returns-clause-each c = grind (arith, elements)

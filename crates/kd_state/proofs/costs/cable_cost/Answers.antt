use Rattle.kd_state.proofs.CostTable.{at_most_four, counted_more}
use Rattle.std.proofs.Common.{arith}
use Rattle.std.proofs.lemmas.Grind.{common_steps}
use Rattle.kd_state.proofs.costs.cable_cost.Goals as goal

pub overflow_add-cost : goal.overflow_add-cost
overflow_add-cost c = grind (arith, common_steps)

pub returns-clause-bound : goal.returns-clause-bound
returns-clause-bound c = grind (arith, at_most_four, counted_more)

pub loop-index-preserved : goal.loop-index-preserved
loop-index-preserved c = grind (arith, at_most_four, counted_more)

use Rattle.std.proofs.Common.{arith}
use Rattle.std.proofs.lemmas.Grind.{common_steps}
use Rattle.kd_lost.proofs.tidy.push_single_spaced.Goals as goal

pub overflow_add-index : goal.overflow_add-index
overflow_add-index c = omega arith

pub split_at-requires : goal.split_at-requires
split_at-requires c = omega arith

pub loop-index-preserved : goal.loop-index-preserved
loop-index-preserved c = grind (arith, common_steps)

pub returns : goal.returns
returns c = grind (arith, common_steps)

use Rattle.std.proofs.Common.{arith}
use Rattle.std.proofs.lemmas.Grind.{common_steps}
use Rattle.kd_lost.proofs.heading_line.has_text_line.Goals as goal

pub returns-then-is_text_line : goal.returns-then-is_text_line
returns-then-is_text_line c = grind (arith, common_steps)

pub loop-index-preserved : goal.loop-index-preserved
loop-index-preserved c = grind (arith, common_steps)

pub returns : goal.returns
returns c = grind (arith, common_steps)

pub overflow_add-index : goal.overflow_add-index
overflow_add-index c = omega arith

pub split_at-requires : goal.split_at-requires
split_at-requires c = omega arith

use Rattle.std.proofs.Common.{arith}
use Rattle.std.proofs.lemmas.Grind.{common_steps}
use Rattle.kd_lost.proofs.by_count.split_word.Goals as goal

pub returns-then-is_blank-clause-word : goal.returns-then-is_blank-clause-word
returns-then-is_blank-clause-word c = grind (arith, common_steps)

pub returns-then-is_blank-clause-rest : goal.returns-then-is_blank-clause-rest
returns-then-is_blank-clause-rest c = grind (arith, common_steps)

pub loop-index-preserved : goal.loop-index-preserved
loop-index-preserved c = grind (arith, common_steps)

pub returns-clause-word : goal.returns-clause-word
returns-clause-word c = grind (arith, common_steps)

pub returns-clause-rest : goal.returns-clause-rest
returns-clause-rest c = grind (arith, common_steps)

use Rattle.std.proofs.Common.{arith}
use Rattle.std.proofs.lemmas.Grind.{common_steps}
use Rattle.kd_lost.proofs.heading_line.after_word.Goals as goal

pub loop-left-preserved : goal.loop-left-preserved
loop-left-preserved c = grind (arith, common_steps)

pub returns-then-left-lt1 : goal.returns-then-left-lt1
returns-then-left-lt1 c = grind (arith, common_steps)

pub returns-else-not-byte : goal.returns-else-not-byte
returns-else-not-byte c = grind (arith, common_steps)

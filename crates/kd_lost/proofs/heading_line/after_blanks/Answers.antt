use Rattle.std.proofs.Common.{arith}
use Rattle.std.proofs.lemmas.Grind.{common_steps}
use Rattle.kd_lost.proofs.heading_line.after_blanks.Goals as goal

pub loop-left-preserved : goal.loop-left-preserved
loop-left-preserved c = grind (arith, common_steps)

pub returns-then-left-lt1 : goal.returns-then-left-lt1
returns-then-left-lt1 c = grind (arith, common_steps)

pub returns-else-is_blank : goal.returns-else-is_blank
returns-else-is_blank c = grind (arith, common_steps)

use Rattle.std.proofs.Common.{arith}
use Rattle.std.proofs.lemmas.Grind.{common_steps}
use Rattle.kd_lost.proofs.shown_parts.+is_any_read.Goals as goal

pub returns-then-is_some : goal.returns-then-is_some
returns-then-is_some t c = grind (arith, common_steps)

pub returns-else-is_some : goal.returns-else-is_some
returns-else-is_some t c = grind (arith, common_steps)

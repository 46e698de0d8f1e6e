use Rattle.std.proofs.Common.{arith}
use Rattle.std.proofs.lemmas.Grind.{common_steps}
use Rattle.kd_pictures.proofs.Drawings.{joined}
use Rattle.kd_lost.proofs.ShownParts.{range_first}
use Rattle.kd_message.proofs.sending.+draw_listed.Goals as goal

pub returns-then-count-gt0 : goal.returns-then-count-gt0
returns-then-count-gt0 g t c =
    joined (rw c.sheet_number.ensures at c.draw_listed_part.ensures) c.draw_listed.ensures (grind (arith, common_steps, range_first))

use Rattle.std.proofs.Common.{arith}
use Rattle.std.proofs.lemmas.Grind.{common_steps}
use Rattle.kd_pictures.proofs.Drawings.{joined}
use Rattle.kd_page.proofs.boxes.+draw_boxes_of.Goals as goal

pub returns-in-len1-up : goal.returns-in-len1-up
returns-in-len1-up g t c =
    joined c.draw_box_at.ensures c.draw_boxes_of.ensures (grind (arith, common_steps))

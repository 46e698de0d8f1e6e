use Rattle.std.proofs.Common.{arith}
use Rattle.std.proofs.lemmas.Grind.{common_steps}
use Rattle.kd_pictures.proofs.Drawings.{both, joined}
use Rattle.kd_page.proofs.drum.draw_bar.Goals as goal

pub returns-in-Some-Some : goal.returns-in-Some-Some
returns-in-Some-Some g c =
    joined (both (both c.draw_bar_head.ensures c.draw_cells.ensures) c.draw_boxes.ensures) c.draw.ensures (grind
    (arith, common_steps))

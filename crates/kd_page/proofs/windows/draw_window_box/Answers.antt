use Rattle.std.proofs.Common.{arith}
use Rattle.std.proofs.lemmas.Grind.{common_steps}
use Rattle.kd_pictures.proofs.Drawings.{both, joined}
use Rattle.kd_page.proofs.windows.draw_window_box.Goals as goal

pub returns-in-Some : goal.returns-in-Some
returns-in-Some g c =
    joined (both c.fill_in.ensures c.draw_boxes.ensures) c.draw.ensures (grind (arith, common_steps))

use Rattle.std.proofs.Common.{arith}
use Rattle.std.proofs.lemmas.Grind.{common_steps}
use Rattle.kd_pictures.proofs.Drawings.{both, joined}
use Rattle.kd_page.proofs.boxes.draw_from_box.Goals as goal

pub returns : goal.returns
returns g c =
    joined (both c.fill_in.ensures c.draw_box_ring.ensures) c.fill.ensures (grind (arith, common_steps))

use Rattle.std.proofs.Common.{arith}
use Rattle.std.proofs.lemmas.Grind.{common_steps}
use Rattle.kd_pictures.proofs.Drawings.{both, joined}
use Rattle.kd_page.proofs.boxes.draw_lug.Goals as goal

pub returns : goal.returns
returns g c =
    joined (both c.fill.ensures c.draw_lug_from.ensures) c.fill_in.ensures (grind (arith, common_steps))

use Rattle.std.proofs.Common.{arith}
use Rattle.std.proofs.lemmas.Grind.{common_steps}
use Rattle.kd_pictures.proofs.Drawings.{both, joined}
unfoldable use Rattle.kd_page.specs.Steps.{list_text}
use Rattle.kd_page.proofs.steps.draw_list.Goals as goal

pub returns : goal.returns
unfolding list_text
returns g c =
    joined (both c.draw.ensures c.draw_boxes.ensures) c.draw-2.ensures (grind (arith, common_steps))

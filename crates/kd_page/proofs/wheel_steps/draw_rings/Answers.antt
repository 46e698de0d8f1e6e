use Rattle.std.proofs.Common.{arith}
use Rattle.std.proofs.lemmas.Grind.{common_steps}
use Rattle.kd_pictures.proofs.Drawings.{both, joined}
unfoldable use Rattle.kd_page.specs.WheelSteps.{some_rings_text}
use Rattle.kd_page.proofs.wheel_steps.draw_rings.Goals as goal

pub returns : goal.returns
unfolding some_rings_text
returns g c =
    joined (both c.draw_step.ensures c.draw_rings_in_box.ensures) c.draw_list.ensures (grind (arith, common_steps))

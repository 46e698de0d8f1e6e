use Rattle.std.proofs.Common.{arith}
use Rattle.std.proofs.lemmas.Grind.{common_steps}
use Rattle.kd_pictures.proofs.Drawings.{both, joined}
unfoldable use Rattle.kd_page.specs.WheelSteps.{all_rings_in_box}
use Rattle.kd_page.proofs.wheel_steps.draw_rings_in_box.Goals as goal

pub returns-then-has_lone_wheel : goal.returns-then-has_lone_wheel
unfolding all_rings_in_box
returns-then-has_lone_wheel g c =
    joined (both c.draw_in.ensures c.draw_wheels_from_box.ensures) c.draw.ensures
    (grind (arith, common_steps))

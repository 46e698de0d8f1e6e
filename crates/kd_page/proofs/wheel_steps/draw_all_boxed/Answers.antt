use Rattle.std.proofs.Common.{arith}
use Rattle.std.proofs.lemmas.Grind.{common_steps}
use Rattle.kd_pictures.proofs.Drawings.{both, joined}
unfoldable use Rattle.kd_page.specs.WheelSteps.{all_boxed_text}
use Rattle.kd_page.proofs.wheel_steps.draw_all_boxed.Goals as goal

pub returns : goal.returns
unfolding all_boxed_text
returns g c =
    joined (both (both c.draw_in.ensures c.draw_boxed_wheels.ensures) c.draw_boxed_reflector.ensures) c.draw.ensures
    (grind (arith, common_steps))

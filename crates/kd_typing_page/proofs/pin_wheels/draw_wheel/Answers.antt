use Rattle.std.proofs.Common.{arith}
use Rattle.std.proofs.lemmas.Grind.{common_steps}
use Rattle.kd_pictures.proofs.Drawings.{both, joined}
unfoldable use Rattle.kd_typing_page.specs.PinWheels.{wheel_text}
use Rattle.kd_typing_page.proofs.pin_wheels.draw_wheel.Goals as goal

pub returns : goal.returns
unfolding wheel_text
returns g c =
    joined (both c.fill_in.ensures c.draw_letters.ensures) c.fill_in-2.ensures (grind (arith, common_steps))

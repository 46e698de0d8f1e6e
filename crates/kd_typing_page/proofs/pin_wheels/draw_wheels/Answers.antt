use Rattle.std.proofs.Common.{arith}
use Rattle.std.proofs.lemmas.Grind.{common_steps}
use Rattle.kd_pictures.proofs.Drawings.{both, joined}
unfoldable use Rattle.kd_typing_page.specs.PinWheels.{wheels_text}
use Rattle.kd_typing_page.proofs.pin_wheels.draw_wheels.Goals as goal

pub returns : goal.returns
unfolding wheels_text
returns g c =
    joined (both (both (both (both c.draw_wheel.ensures c.draw_wheel-2.ensures) c.draw_wheel-3.ensures)
    c.draw_wheel-4.ensures) c.draw_wheel-5.ensures) c.draw_wheel-6.ensures (grind (arith, common_steps))

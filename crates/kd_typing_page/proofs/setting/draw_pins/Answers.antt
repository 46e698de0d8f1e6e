use Rattle.std.proofs.Common.{arith}
use Rattle.std.proofs.lemmas.Grind.{common_steps}
use Rattle.kd_pictures.proofs.Drawings.{both, joined}
unfoldable use Rattle.kd_typing_page.specs.Setting.{pins_text}
use Rattle.kd_typing_page.proofs.setting.draw_pins.Goals as goal

pub returns : goal.returns
unfolding pins_text
returns g c =
    joined (both (both (both (both c.draw_wheel_pins.ensures c.draw_wheel_pins-2.ensures) c.draw_wheel_pins-3.ensures)
    c.draw_wheel_pins-4.ensures) c.draw_wheel_pins-5.ensures) c.draw_wheel_pins-6.ensures (grind (arith, common_steps))

use Rattle.std.proofs.Common.{arith}
use Rattle.std.proofs.lemmas.Grind.{common_steps}
use Rattle.kd_pictures.proofs.Drawings.{both, joined}
unfoldable use Rattle.kd_page.specs.Pins.{pins_step}
use Rattle.kd_page.proofs.pins.draw_pins_step.Goals as goal

pub returns : goal.returns
unfolding pins_step
returns g c =
    joined (both (both c.draw_step.ensures c.draw_pins_caption.ensures) c.draw_pin_wheels.ensures) c.draw.ensures (grind (
      arith,
      common_steps,
    ))

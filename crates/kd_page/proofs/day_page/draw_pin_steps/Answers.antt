use Rattle.std.proofs.Common.{arith}
use Rattle.std.proofs.lemmas.Grind.{common_steps}
use Rattle.kd_pictures.proofs.Drawings.{both, joined}
unfoldable use Rattle.kd_page.specs.DayPage.{pin_text}
use Rattle.kd_page.proofs.day_page.draw_pin_steps.Goals as goal

pub returns : goal.returns
unfolding pin_text
returns g c =
    joined (both (both c.draw_compare_pins.ensures c.draw_pins_step.ensures) c.draw_lugs_step.ensures)
    c.draw_letters_step.ensures (grind (arith, common_steps))

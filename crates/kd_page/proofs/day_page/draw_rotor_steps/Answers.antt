use Rattle.std.proofs.Common.{arith}
use Rattle.std.proofs.lemmas.Grind.{common_steps}
use Rattle.kd_pictures.proofs.Drawings.{both, joined}
unfoldable use Rattle.kd_page.specs.DayPage.{rotor_text}
use Rattle.kd_page.proofs.day_page.draw_rotor_steps.Goals as goal

pub returns : goal.returns
unfolding rotor_text
returns g c =
    joined (both (both (both (both (both c.draw_wheels.ensures c.draw_rings_in_box.ensures) c.draw_rings_step.ensures)
    c.draw_seats_step.ensures) c.draw_out_step.ensures) c.draw_in_step.ensures) c.draw_windows_step.ensures
    (grind (arith, common_steps))

use Rattle.kd_pictures.proofs.Drawings.{both}
unfoldable use Rattle.kd_typing_page.specs.PinWheels.{pin_desk}
use Rattle.kd_typing_page.proofs.pin_wheels.draw_pin_desk.Goals as goal

pub returns : goal.returns
unfolding pin_desk
returns g c =
    both (both (both (both (both c.fill_in.ensures c.draw_wheels.ensures) c.draw_in.ensures) c.draw_in-2.ensures)
    c.draw.ensures) c.draw_in-3.ensures

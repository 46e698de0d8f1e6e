use Rattle.std.proofs.Common.{arith}
use Rattle.std.proofs.lemmas.Grind.{common_steps}
use Rattle.kd_pictures.proofs.Drawings.{both, joined}
unfoldable use Rattle.kd_typing_page.specs.Windows.{rotor_desk}
use Rattle.kd_typing_page.proofs.windows.draw_rotor_desk.Goals as goal

pub returns : goal.returns
unfolding rotor_desk
returns g c =
    joined (both (both (both (both c.fill_in.ensures c.draw_windows.ensures) c.draw.ensures) c.draw_in.ensures)
    c.draw-2.ensures) c.draw_in-2.ensures (grind (arith, common_steps))

use Rattle.std.proofs.Common.{arith}
use Rattle.std.proofs.lemmas.Grind.{common_steps}
use Rattle.kd_pictures.proofs.Drawings.{both, joined}
use Rattle.kd_page.proofs.pins.draw_pin_wheel.Goals as goal

pub returns : goal.returns
returns g c =
    joined (both (both (both (both c.draw_pin_head.ensures c.draw.ensures) c.draw_pin_cells.ensures) c.draw-2.ensures)
    c.draw_pin_cells-2.ensures) c.draw-3.ensures (grind (arith, common_steps))

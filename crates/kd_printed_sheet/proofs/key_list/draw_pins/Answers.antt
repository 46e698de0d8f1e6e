use Rattle.std.proofs.Common.{arith}
use Rattle.std.proofs.lemmas.Grind.{common_steps}
use Rattle.kd_pictures.proofs.Drawings.{both, joined}
unfoldable use Rattle.kd_printed_sheet.specs.KeyList.{pin_cells}
use Rattle.kd_printed_sheet.proofs.key_list.draw_pins.Goals as goal

pub returns : goal.returns
unfolding pin_cells
returns g c =
    joined (both (both (both (both c.draw_pin.ensures c.draw_pin-2.ensures) c.draw_pin-3.ensures)
    c.draw_pin-4.ensures) c.draw_pin-5.ensures) c.draw_pin-6.ensures (grind (arith, common_steps))

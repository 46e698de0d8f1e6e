use Rattle.std.proofs.Common.{arith}
use Rattle.std.proofs.lemmas.Grind.{common_steps}
use Rattle.kd_pictures.proofs.Drawings.{both, joined}
unfoldable use Rattle.kd_printed_sheet.specs.CsvTable.{effective_cells}
use Rattle.kd_printed_sheet.proofs.csv_table.draw_pins.Goals as goal

pub returns : goal.returns
unfolding effective_cells
returns g c =
    joined (both (both (both (both c.draw_wheel.ensures c.draw_wheel-2.ensures) c.draw_wheel-3.ensures)
    c.draw_wheel-4.ensures) c.draw_wheel-5.ensures) c.draw_wheel-6.ensures (grind (arith, common_steps))

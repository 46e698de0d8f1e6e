use Rattle.std.proofs.Common.{arith}
use Rattle.std.proofs.lemmas.Grind.{common_steps}
use Rattle.kd_pictures.proofs.Drawings.{both, joined}
unfoldable use Rattle.kd_printed_sheet.specs.CsvTable.{rotor_line}
use Rattle.kd_printed_sheet.proofs.csv_table.draw_rotor_line.Goals as goal

pub returns : goal.returns
unfolding rotor_line
returns g c =
    joined (both (both c.draw_day_cells.ensures c.draw_key_cells.ensures) c.draw_list_cells.ensures)
    c.draw.ensures (grind (arith, common_steps))

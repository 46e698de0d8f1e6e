use Rattle.std.proofs.Common.{arith}
use Rattle.std.proofs.lemmas.Grind.{common_steps}
use Rattle.kd_pictures.proofs.Drawings.{both, joined}
unfoldable use Rattle.kd_printed_sheet.specs.CsvTable.{pin_line}
use Rattle.kd_printed_sheet.proofs.csv_table.draw_pin_line.Goals as goal

pub returns : goal.returns
unfolding pin_line
returns g c =
    joined (both (both (both (both (both (both (both c.draw.ensures c.draw-2.ensures) c.draw_words.ensures)
    c.draw-3.ensures) c.draw_letters.ensures) c.draw_pins.ensures) c.draw-4.ensures) c.draw_words-2.ensures)
    c.draw-5.ensures
    (grind (arith, common_steps))

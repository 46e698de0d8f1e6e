use Rattle.std.proofs.Common.{arith}
use Rattle.std.proofs.lemmas.Grind.{common_steps}
use Rattle.kd_pictures.proofs.Drawings.{both, joined}
use Rattle.kd_printed_sheet.proofs.csv_table.draw_key_cells.Goals as goal

pub returns : goal.returns
returns g c =
    joined (both (both (both (both (both (both (both (both c.draw.ensures c.draw_words.ensures)
    c.draw-2.ensures) c.draw_rings.ensures) c.draw-3.ensures) c.draw_words-2.ensures) c.draw-4.ensures)
    c.draw_words-3.ensures) c.draw-5.ensures) c.draw_words-4.ensures (grind (arith, common_steps))

use Rattle.std.proofs.Common.{arith}
use Rattle.std.proofs.lemmas.Grind.{common_steps}
use Rattle.kd_pictures.proofs.Drawings.{joined}
unfoldable use Rattle.kd_printed_sheet.specs.CsvTable.{csv_text}
use Rattle.kd_printed_sheet.proofs.csv_table.draw_csv.Goals as goal

pub returns : goal.returns
unfolding csv_text
returns g c =
    joined c.draw_head.ensures c.draw_lines.ensures (grind (arith, common_steps))

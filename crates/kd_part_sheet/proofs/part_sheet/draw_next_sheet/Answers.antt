use Rattle.std.proofs.Common.{arith}
use Rattle.std.proofs.lemmas.Grind.{common_steps}
use Rattle.kd_pictures.proofs.Drawings.{joined}
use Rattle.kd_part_sheet.proofs.Sheets.{next_sheet_some}
use Rattle.kd_part_sheet.proofs.part_sheet.draw_next_sheet.Goals as goal

pub returns-else-is_empty : goal.returns-else-is_empty
returns-else-is_empty g c =
    joined c.fill_name.ensures c.draw_rows.ensures
    (grind (arith, common_steps, next_sheet_some))

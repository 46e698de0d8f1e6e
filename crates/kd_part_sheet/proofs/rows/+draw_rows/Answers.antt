use Rattle.std.proofs.Common.{arith}
use Rattle.std.proofs.lemmas.Grind.{common_steps}
use Rattle.kd_pictures.proofs.Drawings.{joined}
use Rattle.kd_part_sheet.proofs.rows.+draw_rows.Goals as goal

pub returns-then-not-is_empty : goal.returns-then-not-is_empty
returns-then-not-is_empty g t c =
    joined c.draw_row.ensures c.draw_rows.ensures (grind (arith, common_steps))

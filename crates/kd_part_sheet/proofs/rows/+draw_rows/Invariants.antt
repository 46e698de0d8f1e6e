use Rattle.std.proofs.Common.{length}
use Rattle.kd_part_sheet.proofs.rows.+draw_rows.Given as goal

abbrev pub decreases-draw_rows : goal.decreases-draw_rows
decreases-draw_rows g l = length l.cells.now

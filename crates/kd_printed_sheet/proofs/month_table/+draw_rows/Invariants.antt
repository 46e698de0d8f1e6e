use Rattle.std.proofs.Common.{length}
use Rattle.kd_printed_sheet.proofs.month_table.+draw_rows.Given as goal

abbrev pub decreases-draw_rows : goal.decreases-draw_rows
decreases-draw_rows g l = length l.days.now

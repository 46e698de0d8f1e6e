use Rattle.std.proofs.Common.{length}
use Rattle.kd_printed_sheet.proofs.month_table.+draw_wheels.Given as goal

abbrev pub decreases-draw_wheels : goal.decreases-draw_wheels
decreases-draw_wheels g l = length l.wheels.now

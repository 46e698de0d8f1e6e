use Rattle.std.proofs.Common.{length}
use Rattle.kd_printed_sheet.proofs.month_table.+draw_rings.Given as goal

abbrev pub decreases-draw_rings : goal.decreases-draw_rings
decreases-draw_rings g l = length l.wheels.now

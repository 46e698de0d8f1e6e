use Rattle.std.proofs.Common.{length}
use Rattle.kd_part_sheet.proofs.rows.+draw_line.Given as goal

abbrev pub decreases-draw_line : goal.decreases-draw_line
decreases-draw_line g l = length l.group.now

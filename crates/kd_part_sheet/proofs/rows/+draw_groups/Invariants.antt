use Rattle.std.proofs.Common.{length}
use Rattle.kd_part_sheet.proofs.rows.+draw_groups.Given as goal

abbrev pub decreases-draw_groups : goal.decreases-draw_groups
decreases-draw_groups g l = length l.cells.now

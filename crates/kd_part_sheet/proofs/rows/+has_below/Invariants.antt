use Rattle.std.proofs.Common.{length}
use Rattle.kd_part_sheet.proofs.rows.+has_below.Given as goal

abbrev pub decreases-has_below : goal.decreases-has_below
decreases-has_below l = length l.group.now

use Rattle.std.proofs.Common.{length}
use Rattle.kd_spreadsheet.proofs.near_names.+lacks_near_any.Given as goal

abbrev pub decreases-lacks_near_any : goal.decreases-lacks_near_any
decreases-lacks_near_any l = length l.cells.now

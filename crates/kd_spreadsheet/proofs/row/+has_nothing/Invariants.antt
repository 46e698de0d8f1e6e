use Rattle.std.proofs.Common.{length}
use Rattle.kd_spreadsheet.proofs.row.+has_nothing.Given as goal

abbrev pub decreases-has_nothing : goal.decreases-has_nothing
decreases-has_nothing l = length l.columns.now

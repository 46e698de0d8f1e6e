use Rattle.std.proofs.Common.{length}
use Rattle.kd_spreadsheet.proofs.cell.+has_each_column.Given as goal

abbrev pub decreases-has_each_column : goal.decreases-has_each_column
decreases-has_each_column l = length l.cells.now

use Rattle.std.proofs.Common.{length}
use Rattle.kd_spreadsheet.specs.RowNumbers.{AreLineEnds}
use Rattle.kd_spreadsheet.proofs.notes.row_numbers.skip_empty.Given as goal

abbrev pub invariant-loop-after : goal.invariant-loop-after
invariant-loop-after l = AreLineEnds l.rest l.skipped l.left

abbrev pub decreases-loop-after : goal.decreases-loop-after
decreases-loop-after l = length l.left

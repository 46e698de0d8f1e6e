use Rattle.kd_spreadsheet.proofs.CountedRows.{IsInRow}
use Rattle.kd_spreadsheet.proofs.notes.row_numbers.skip_row.Given as goal

abbrev pub invariant-loop-place : goal.invariant-loop-place
invariant-loop-place l = IsInRow l.separator l.rest l.quoting l.place

use Rattle.std.proofs.Common.{◌≡◌, ◌+◌, ◌++◌, ℕ, List, drop, map, take}
use Rattle.std.specs.List.{list_all}
use Rattle.csv.specs.Records.{fields_of}
use Rattle.kd_spreadsheet.specs.Row.{is_blank_row}
use Rattle.kd_spreadsheet.specs.Notes.{HasReadRows}
use Rattle.kd_spreadsheet.specs.RowNumbers.{IsCounted, numbers_left, row_numbers}
use Rattle.kd_spreadsheet.proofs.notes.push_rows.Given as goal

abbrev pub invariant-loop-row : goal.invariant-loop-row
invariant-loop-row l = (text : List ℕ) × (l.note.items ≡ l.fn.note.items ++ text)
    × HasReadRows l.head (drop 1 (row_numbers l.table)) (map fields_of (take l.row-index l.rows)) text l.found
    × (l.blank ≡ list_all (is_blank_row l.head.columns) (map fields_of (take l.row-index l.rows)))
    × IsCounted l.numbers × (numbers_left l.numbers ≡ drop (l.row-index + 1) (row_numbers l.table))

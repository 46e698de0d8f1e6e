use Rattle.std.proofs.Common.{◌≡◌, false, map, take}
use Rattle.std.specs.List.{list_any}
use Rattle.csv.specs.Records.{fields_of}
use Rattle.kd_spreadsheet.specs.Notes.{lacks_column}
use Rattle.kd_spreadsheet.proofs.notes.lacks_column_any.Given as goal

abbrev pub invariant-loop-row : goal.invariant-loop-row
invariant-loop-row l =
    list_any (lacks_column l.head.options l.head.columns) (map fields_of (take l.row-index l.rows)) ≡ false

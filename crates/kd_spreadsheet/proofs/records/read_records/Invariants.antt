use Rattle.std.proofs.Common.{map}
use Rattle.csv.specs.Records.{fields_of}
use Rattle.kd_spreadsheet.specs.Records.{IsReadTo}
use Rattle.kd_spreadsheet.proofs.records.read_records.Given as goal

abbrev pub invariant-loop-row : goal.invariant-loop-row
invariant-loop-row l = IsReadTo l.table l.row-iterator (map fields_of l.rows.items)

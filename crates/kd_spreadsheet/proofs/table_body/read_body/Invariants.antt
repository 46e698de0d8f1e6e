use Rattle.std.proofs.Common.{map, take}
use Rattle.csv.specs.Records.{fields_of}
use Rattle.kd_options.specs.TableOptions.{texts_of}
use Rattle.kd_spreadsheet.specs.Table.{IsBodyRead}
use Rattle.kd_spreadsheet.proofs.table_body.read_body.Given as goal

abbrev pub invariant-loop-row : goal.invariant-loop-row
invariant-loop-row l = IsBodyRead (texts_of l.options) l.columns (map fields_of (take l.row-index l.rows)) l.days.items
    l.refused

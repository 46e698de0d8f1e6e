use Rattle.std.proofs.Common.{◌≡◌, drop}
use Rattle.std.specs.Prelude.{find}
use Rattle.kd_spreadsheet.specs.Rows.{is_separator}
use Rattle.kd_spreadsheet.proofs.quotes.separator_of.Given as goal

abbrev pub invariant-loop-byte : goal.invariant-loop-byte
invariant-loop-byte l = find is_separator (drop l.byte-index l.table) ≡ find is_separator l.table

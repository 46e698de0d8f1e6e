use Rattle.std.proofs.Common.{◌≡◌, drop}
use Rattle.std.specs.List.{list_all}
use Rattle.kd_spreadsheet.specs.Names.{is_gap}
use Rattle.kd_spreadsheet.proofs.items.is_blank.Given as goal

abbrev pub invariant-loop-byte : goal.invariant-loop-byte
invariant-loop-byte l = list_all is_gap (drop l.byte-index l.cell) ≡ list_all is_gap l.cell

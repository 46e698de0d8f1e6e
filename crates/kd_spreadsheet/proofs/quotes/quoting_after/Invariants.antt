use Rattle.std.proofs.Common.{◌≡◌, drop}
use Rattle.kd_spreadsheet.specs.Rows.{quoting_after}
use Rattle.kd_spreadsheet.specs.declared.quotes.Quoting.TheVariants.{CellStart}
use Rattle.kd_spreadsheet.proofs.quotes.quoting_after.Given as goal

abbrev pub invariant-loop-byte : goal.invariant-loop-byte
invariant-loop-byte l =
    quoting_after l.separator l.quoting (drop l.byte-index l.text) ≡ quoting_after l.separator CellStart l.text

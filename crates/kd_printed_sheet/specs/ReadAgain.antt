-- What the command `curator sheet` reads in a table that the command `curator table` wrote.
use Rattle.std.specs.Prelude.{◌≡◌, ℕ, List, Option, Ok}
use Rattle.std.specs.Bool.{MatchBool}
use Rattle.kd_state.specs.SheetDay.{Day}
use Rattle.kd_sheet.specs.Sheet.{month_of}
use Rattle.kd_sheet.specs.SheetFile.{sheet_of}
use Rattle.kd_options.specs.TableOptions.{OptionTexts}
use Rattle.kd_spreadsheet.specs.Table.{IsRefusedTable, TableMeans}
use Rattle.kd_printed_sheet.specs.CsvTable.{csv_text}
use Rattle.kd_printed_sheet.specs.Days.{has_days}

-- With the options `options`, the command `curator sheet` reads `table` as the days of `month`, and no other days.
pub record MeansMonth (options : OptionTexts) (table : List ℕ) (month : List (Option Day)) : Type 0 where
  pub days : List Day
  pub means : TableMeans options table days
  pub same_month : month_of days ≡ month

-- The CSV table of a key sheet is read as exactly the days of the sheet, whatever the options are. If the sheet has no
-- days, its table is refused.
abbrev pub TablesAreReadBack : Type 0
TablesAreReadBack = (options : OptionTexts) (sheet : List ℕ) (month : List (Option Day)) → sheet_of sheet ≡ Ok month
    → MatchBool (has_days month) (MeansMonth options (csv_text month) month) (IsRefusedTable options (csv_text month))

-- The days that a table means, and the tables that are refused.
-- Test: tests/cases/curator-sheet.toml
use Rattle.std.specs.Prelude.{◌≡◌, ◌⊎◌, ◌<◌, ◌==◌, ℕ, Bool, true, false, List, [], ◌∷◌, ◌++◌, length}
use Rattle.std.specs.List.{list_any}
use Rattle.csv.specs.Reading.{AreRecords, strip_bom}
use Rattle.csv.specs.declared.parser.State.TheVariants as st
use Rattle.kd_state.specs.SheetDay.{Day, day_number}
use Rattle.kd_spreadsheet.specs.Columns.{columns_of}
use Rattle.kd_spreadsheet.specs.NearNames.{is_misnamed}
use Rattle.kd_spreadsheet.specs.Row.{row_values, is_blank_row, IsDayOfRow, IsNoDay}
use Rattle.kd_spreadsheet.specs.Rows.{separated, separator_of, is_well_quoted}
use Rattle.kd_spreadsheet.specs.declared.columns.Columns.{Columns}
use Rattle.kd_options.specs.TableOptions.{OptionTexts}

-- whether one of `days` has the number `number`
abbrev pub is_taken : List Day → ℕ → Bool
is_taken days number = list_any (λ day. day_number day == number) days

-- `rows`, the rows under a table's first row, have the days `days`, in order. Blank rows have no day. No two days have
-- the same number.
pub data AreDaysOfRows (options : OptionTexts) (columns : Columns) : List (List (List ℕ)) → List Day → Type 0 where
  NoRows : AreDaysOfRows options columns [] []
  BlankRow : (rows : List (List (List ℕ))) (days : List Day) (row : List (List ℕ)) → AreDaysOfRows options columns rows days
      → is_blank_row columns row ≡ true → AreDaysOfRows options columns (rows ++ row ∷ []) days
  DayRow : (rows : List (List (List ℕ))) (days : List Day) (row : List (List ℕ)) (day : Day)
      → AreDaysOfRows options columns rows days → is_blank_row columns row ≡ false → IsDayOfRow options columns row day
      → is_taken days (day_number day) ≡ false → AreDaysOfRows options columns (rows ++ row ∷ []) (days ++ day ∷ [])

-- The row isn't blank. It has no day, or its day has the same number as a day in `days`.
pub record IsRefusedRow (options : OptionTexts) (columns : Columns) (days : List Day) (row : List (List ℕ)) : Type 0 where
  pub filled : is_blank_row columns row ≡ false
  pub why : IsNoDay (row_values options columns row)
      ⊎ ((day : Day) × IsDayOfRow options columns row day × (is_taken days (day_number day) ≡ true))

-- One of `rows` is refused. Each row before the refused row is blank, or has a day.
pub record HasRefusedRow (options : OptionTexts) (columns : Columns) (rows : List (List (List ℕ))) : Type 0 where
  pub before : List (List (List ℕ))
  pub row : List (List ℕ)
  pub after : List (List (List ℕ))
  pub days : List Day
  pub split : rows ≡ before ++ row ∷ after
  pub described : AreDaysOfRows options columns before days
  pub refused : IsRefusedRow options columns days row

-- The table has the rows `rows`, which include the table's first row.
abbrev pub AreRows : List ℕ → List (List (List ℕ)) → Type 0
AreRows table rows = AreRecords (separated (separator_of table)) st.StartRecord (strip_bom table) rows

-- `table` means the days `days`: its rows have these days, and there is at least one day. The table's quotes are right,
-- and no column is misnamed.
pub record TableMeans (options : OptionTexts) (table : List ℕ) (days : List Day) : Type 0 where
  pub quoted : is_well_quoted table ≡ true
  pub head : List (List ℕ)
  pub rows : List (List (List ℕ))
  pub are : AreRows table (head ∷ rows)
  pub named : is_misnamed (columns_of head) head ≡ false
  pub described : AreDaysOfRows options (columns_of head) rows days
  pub some : 0 < length days

-- The table is refused for one of these reasons:
-- - Its quotes are wrong.
-- - A column is misnamed.
-- - A row is refused.
-- - No row has a day. The table may have no rows at all.
pub data IsRefusedTable (options : OptionTexts) (table : List ℕ) : Type 0 where
  WrongQuotes : is_well_quoted table ≡ false → IsRefusedTable options table
  Misnamed : (head : List (List ℕ)) (rows : List (List (List ℕ))) → AreRows table (head ∷ rows)
      → is_misnamed (columns_of head) head ≡ true → IsRefusedTable options table
  RefusedRow : (head : List (List ℕ)) (rows : List (List (List ℕ))) → AreRows table (head ∷ rows)
      → HasRefusedRow options (columns_of head) rows → IsRefusedTable options table
  NoDays : (head : List (List ℕ)) (rows : List (List (List ℕ))) → AreRows table (head ∷ rows)
      → AreDaysOfRows options (columns_of head) rows [] → IsRefusedTable options table
  NoFirstRow : AreRows table [] → IsRefusedTable options table

-- ---- Reading row by row. No public contract cites these definitions.

-- `rows` are the rows under the first row. If the last argument is `false`, these rows have the days `days`. If the
-- last argument is `true`, one of these rows is refused.
abbrev pub IsBodyRead : OptionTexts → Columns → List (List (List ℕ)) → List Day → Bool → Type 0
IsBodyRead options columns rows days false = AreDaysOfRows options columns rows days
IsBodyRead options columns rows days true = HasRefusedRow options columns rows

-- A table with the first row `head` and the other rows `rows` is refused. Either a column is misnamed, or a row is
-- refused, or no row has a day.
abbrev pub AreRefusedRows : OptionTexts → List (List ℕ) → List (List (List ℕ)) → Type 0
AreRefusedRows options head rows = (is_misnamed (columns_of head) head ≡ true)
    ⊎ (HasRefusedRow options (columns_of head) rows ⊎ AreDaysOfRows options (columns_of head) rows [])

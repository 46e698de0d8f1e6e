-- The columns of a table, and their names. The names in the table's first row say which value of a day each column has.
-- Test: tests/cases/curator-sheet.toml
use Rattle.std.specs.Prelude.{codes, ℕ, ◌||◌, Bool, List, [], ◌∷◌, find, length, Option, Some, if◌then◌else◌}
use Rattle.std.specs.List.{range_with_len}
use Rattle.std.specs.Option.{option_and_then, option_map_or}
use Rattle.csv.specs.Records.{field_at}
use Rattle.kd_spreadsheet.specs.Items.{is_blank}
use Rattle.kd_spreadsheet.specs.Names.{is_named}
use Rattle.kd_spreadsheet.specs.declared.cell.Cell.{Cell}
use Rattle.kd_spreadsheet.specs.declared.cell.Cell.TheVariants as cells
use Rattle.kd_spreadsheet.specs.declared.columns.Columns.{Columns}

-- The text of `row` in `column`. Empty if the table has no such column, or the row is too short.
abbrev pub cell_at : Option ℕ → List (List ℕ) → List ℕ
cell_at column row = option_map_or (λ text. text) (option_and_then (field_at row) column) []

-- the text of `row` in `column`; `otherwise` if this text is blank
abbrev pub cell_or : List ℕ → Option ℕ → List (List ℕ) → List ℕ
cell_or otherwise column row = if is_blank (cell_at column row) then otherwise else cell_at column row

-- ---- The names of columns.

-- the English name of a cell's column
abbrev pub english_name : Cell → List ℕ
english_name cells.Day = codes "day"
english_name cells.Model = codes "model"
english_name cells.Reflector = codes "reflector"
english_name cells.Wheels = codes "wheels"
english_name cells.Rings = codes "rings"
english_name cells.Window = codes "window"
english_name cells.Plugs = codes "plugs"
english_name cells.Groups = codes "groups"
english_name cells.List = codes "list"
english_name cells.Pins1 = codes "pins 1"
english_name cells.Pins2 = codes "pins 2"
english_name cells.Pins3 = codes "pins 3"
english_name cells.Pins4 = codes "pins 4"
english_name cells.Pins5 = codes "pins 5"
english_name cells.Pins6 = codes "pins 6"
english_name cells.Bars = codes "bars"

-- the German name of a cell's column
abbrev pub german_name : Cell → List ℕ
german_name cells.Day = codes "Tag"
german_name cells.Model = codes "Modell"
german_name cells.Reflector = codes "Umkehrwalze"
german_name cells.Wheels = codes "Walzenlage"
german_name cells.Rings = codes "Ringstellung"
german_name cells.Window = codes "Grundstellung"
german_name cells.Plugs = codes "Steckerverbindungen"
german_name cells.Groups = codes "Kenngruppen"
german_name cells.List = codes "Liste"
german_name cells.Pins1 = codes "Stifte 1"
german_name cells.Pins2 = codes "Stifte 2"
german_name cells.Pins3 = codes "Stifte 3"
german_name cells.Pins4 = codes "Stifte 4"
german_name cells.Pins5 = codes "Stifte 5"
german_name cells.Pins6 = codes "Stifte 6"
german_name cells.Bars = codes "Stangen"

-- the short German name of a cell's column; the German name if the column has no short name
abbrev pub short_name : Cell → List ℕ
short_name cells.Reflector = codes "UKW"
short_name cells.Wheels = codes "Walzen"
short_name cells.Rings = codes "Ringe"
short_name cells.Plugs = codes "Stecker"
short_name cell = german_name cell

-- whether the text is one of the three names of a cell's column
unfoldable pub names_column : Cell → List ℕ → Bool
names_column cell text =
    is_named (english_name cell) text || is_named (german_name cell) text || is_named (short_name cell) text

-- ---- The columns of a table.

-- the first column whose name is one of the three names for `cell`; only the `count` columns from `place` on are
-- searched
unfoldable pub column_from : Cell → List (List ℕ) → ℕ → ℕ → Option ℕ
column_from cell head place count =
    find (λ at. names_column cell (cell_at (Some at) head)) (range_with_len place count)

-- the place of the cell's column: the first of the table's first 64 columns that has one of the cell's three names
abbrev pub column_named : Cell → List (List ℕ) → Option ℕ
column_named cell head = column_from cell head 0 64

-- the columns of a Converter's pins, wheel by wheel
abbrev pub pin_columns : List (List ℕ) → List (Option ℕ)
pin_columns head =
    column_named cells.Pins1 head
    ∷ column_named cells.Pins2 head
    ∷ column_named cells.Pins3 head
    ∷ column_named cells.Pins4 head
    ∷ column_named cells.Pins5 head
    ∷ column_named cells.Pins6 head ∷ []

-- The columns of a table whose first row is `head`: the number of all columns, and the place of each column that is
-- read. Places are counted from 0.
unfoldable pub columns_of : List (List ℕ) → Columns
columns_of head = record {
  count = length head;
  day = column_named cells.Day head;
  model = column_named cells.Model head;
  reflector = column_named cells.Reflector head;
  wheels = column_named cells.Wheels head;
  rings = column_named cells.Rings head;
  plugs = column_named cells.Plugs head;
  window = column_named cells.Window head;
  groups = column_named cells.Groups head;
  list = column_named cells.List head;
  pins = pin_columns head;
  bars = column_named cells.Bars head;
}

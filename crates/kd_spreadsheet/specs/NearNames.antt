-- Misnamed columns: the table lacks a column, and an unread column has nearly this column's name. Such a table is
-- refused, because the unread column may be the missing column with a mistyped name.
-- Test: tests/cases/curator-sheet.toml
use Rattle.std.specs.Prelude.{ℕ, nat_lt, ◌&&◌, ◌||◌, not, Bool, List, [], ◌∷◌, find, is_some, length, Option, Some, if◌then◌else◌}
use Rattle.std.specs.List.{list_any, range_with_len}
use Rattle.kd_slips.specs.NearNames.{is_near}
use Rattle.kd_spreadsheet.specs.Cells.{column_of}
use Rattle.kd_spreadsheet.specs.Columns.{cell_at, english_name, german_name, short_name}
use Rattle.kd_spreadsheet.specs.Row.{is_column_read}
use Rattle.kd_spreadsheet.specs.declared.cell.Cell.{Cell}
use Rattle.kd_spreadsheet.specs.declared.cell.Cell.TheVariants as cells
use Rattle.kd_spreadsheet.specs.declared.columns.Columns.{Columns}

-- all cells that a row may have
abbrev pub all_cells : List Cell
all_cells =
    cells.Day ∷ cells.Model ∷ cells.Reflector ∷ cells.Wheels ∷ cells.Rings ∷ cells.Window ∷ cells.Plugs ∷ cells.Groups
    ∷ cells.List ∷ cells.Pins1 ∷ cells.Pins2 ∷ cells.Pins3 ∷ cells.Pins4 ∷ cells.Pins5 ∷ cells.Pins6 ∷ cells.Bars ∷ []

-- Whether `name` nearly equals `known`: they differ in one stretch of at most two letters, as `wheles` and `wheels` do.
-- If `known` has fewer than five letters, they differ in at most one letter. Capital and small letters count as equal.
abbrev pub is_near_name : List ℕ → List ℕ → Bool
is_near_name name known = is_near (if nat_lt (length known) 5 then 1 else 2) name known

-- whether `name` nearly equals one of the three names of the cell's column
abbrev pub is_near_column : Cell → List ℕ → Bool
is_near_column cell name =
    is_near_name name (english_name cell) || is_near_name name (german_name cell) || is_near_name name (short_name cell)

-- whether the column at `place` isn't read, and has nearly one of the three names of the cell's column
unfoldable pub is_meant : Columns → List (List ℕ) → Cell → ℕ → Bool
is_meant columns head cell place =
    not (is_column_read columns place) && is_near_column cell (cell_at (Some place) head)

-- the first unread column with nearly the name of the cell's column; only the `count` columns from `place` on are
-- searched
unfoldable pub near_from : Columns → List (List ℕ) → Cell → ℕ → ℕ → Option ℕ
near_from columns head cell place count = find (is_meant columns head cell) (range_with_len place count)

-- the first unread column with nearly the name of the cell's column; only the first 64 columns are searched
abbrev pub near_column : Columns → List (List ℕ) → Cell → Option ℕ
near_column columns head cell = near_from columns head cell 0 64

-- whether the table lacks the cell's column, but has an unread column with nearly this column's name
abbrev pub lacks_near : Columns → List (List ℕ) → Cell → Bool
lacks_near columns head cell = not (is_some (column_of columns cell)) && is_some (near_column columns head cell)

-- whether the table whose first row is `head` has a misnamed column
unfoldable pub is_misnamed : Columns → List (List ℕ) → Bool
is_misnamed columns head = list_any (lacks_near columns head) all_cells

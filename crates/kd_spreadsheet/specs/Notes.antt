-- The notes on a table, on standard error. The notes on unread columns, and the warnings about days with few pairs or
-- groups, are defined to the byte.
--
-- If the quotes of a refused table are right, the notes have at least one line for each unreadable cell that the row's
-- model needs. They also have one for each row that is neither blank nor a day. The exception: if the table lacks a
-- column that the row needs, there may be only a line about the columns. Each of these lines begins with the place of
-- the cell, the row or the first row. The words after the place aren't defined, nor is their language. For a cell with
-- the day of an earlier row, there is one line, which is defined to the byte.
-- Test: tests/cases/curator-sheet.toml
use Rattle.std.specs.Prelude.{◌≡◌, ◌<◌, ◌+◌, ◌==◌, ◌&&◌, ◌||◌, not, codes, decimal, nat_lt, ℕ, Bool, true, false, List, [], ◌∷◌, ◌++◌, drop, flat_map, length, map, slice_get, slice_index_or, take, Option, Some, None, IfSome, IsTrue, MatchOption, if◌then◌else◌}
use Rattle.std.specs.Prelude.{Result, Ok, Err}
use Rattle.std.specs.Io.KnownBytes.{Appends}
use Rattle.std.specs.List.{list_all, list_any, range_with_len}
use Rattle.std.specs.Option.{option_map_or}
use Rattle.kd_language.specs.Language.{text_in}
use Rattle.kd_language.specs.Template.{filled}
use Rattle.kd_language.specs.declared.language.Language.{Language}
use Rattle.kd_tables.specs.Ports.{Port}
use Rattle.kd_tables.specs.declared.ports.write_fault.WriteFault.{WriteFault}
use Rattle.kd_tables.specs.declared.ports.write_fault.WriteFault.TheVariants.{Device, Unwritten}
use Rattle.kd_state.specs.SheetDay.{Day}
use Rattle.kd_slips.specs.Counts.{counts_of, few_lines}
use Rattle.kd_spreadsheet.specs.Cells.{column_of, day_in, has_columns, is_faulty, row_cells, row_model}
use Rattle.kd_spreadsheet.specs.Columns.{cell_at, columns_of}
use Rattle.kd_spreadsheet.specs.Head.{Head}
use Rattle.kd_spreadsheet.specs.Items.{is_blank}
use Rattle.kd_options.specs.TableOptions.{OptionTexts}
use Rattle.kd_spreadsheet.specs.NearNames.{is_misnamed}
use Rattle.kd_spreadsheet.specs.Row.{IsNoDay, is_blank_row, is_column_read, row_values}
use Rattle.kd_spreadsheet.specs.RowNumbers.{row_numbers}
use Rattle.kd_spreadsheet.specs.Rows.{is_well_quoted}
use Rattle.kd_spreadsheet.specs.Table.{AreDaysOfRows, AreRows, TableMeans}
use Rattle.kd_spreadsheet.specs.declared.cell.Cell.{Cell}
use Rattle.kd_spreadsheet.specs.declared.cell.Cell.TheVariants as cells
use Rattle.kd_spreadsheet.specs.declared.columns.Columns.{Columns}
use Rattle.kd_spreadsheet.specs.declared.fault.SpreadsheetFault.{SpreadsheetFault}
use Rattle.kd_spreadsheet.specs.declared.fault.SpreadsheetFault.TheVariants as faults
use Rattle.kd_spreadsheet.specs.declared.notes.found.Found.{Found}
use Rattle.kd_spreadsheet.specs.declared.texts.TheConstants as texts

-- ---- The port of the notes.

-- The call only appended text to the notes. If the port of the notes had failed before the call, it still counts as
-- failed.
pub record Tells (notes : Port) : Type 0 where
  pub text : List ℕ
  pub written : Appends notes.had notes.has text
  pub failed : IsTrue notes.had_failed → IsTrue notes.has_failed

-- The port of the notes took `text` or, if the port has failed, a prefix of `text`.
pub record TellsText (notes : Port) (text : List ℕ) : Type 0 where
  pub whole : notes.has_failed ≡ false → Appends notes.had notes.has text
  pub part : (count : ℕ) × Appends notes.had notes.has (take count text)

-- ---- What is shown of a cell: of a cell with more than 60 bytes, only the start.

-- The byte that a note shows for a byte of a cell: `?` if the byte can't be printed. In a cell with more than 60 bytes
-- (`is_long`), `?` also stands for each byte outside of ASCII.
abbrev pub shown_byte : Bool → ℕ → ℕ
shown_byte is_long byte = if nat_lt byte 32 || byte == 127 || is_long && nat_lt 127 byte then 63 else byte

abbrev pub shown : List ℕ → List ℕ
shown cell =
    if nat_lt 60 (length cell) then map (shown_byte true) (take 60 cell) ++ codes "..."
    else map (shown_byte false) cell

-- a line of notes: a place, then words about this place
abbrev pub line_at : List ℕ → List ℕ → List ℕ
line_at place words = place ++ words ++ 10 ∷ []

-- ---- Columns that aren't read.

-- the line about an unread column; `name` is the column's name
abbrev pub unread_words : Language → List ℕ → List ℕ
unread_words l name = filled (text_in l texts.UNREAD_COLUMN) (shown name ∷ [])

-- the note on the column at `place`; empty if the column has no name, or is read
abbrev pub unread_line : Language → List (List ℕ) → ℕ → List ℕ
unread_line l head place =
    if is_blank (cell_at (Some place) head) || is_column_read (columns_of head) place then []
    else unread_words l (cell_at (Some place) head)

-- the notes on a table's unread columns, among the `count` columns from `place` on; `head` is the table's first row
unfoldable pub unread_from : Language → List (List ℕ) → ℕ → ℕ → List ℕ
unread_from l head place count = flat_map (unread_line l head) (range_with_len place count)

-- the notes on a table's unread columns, among the first 64; `head` is the table's first row
abbrev pub unread_note : Language → List (List ℕ) → List ℕ
unread_note l head = unread_from l head 0 64

-- The table has the first row `head`.
abbrev pub HasHead : List ℕ → List (List ℕ) → Type 0
HasHead table head = (rows : List (List (List ℕ))) × AreRows table (head ∷ rows)

-- ---- A table that means days.

-- The note on a table that isn't refused. The table has the first row `head` and the days `days`. The note begins with
-- the notes on unread columns. Then it warns about each day that has fewer pairs, or fewer groups, than another day of
-- its model.
unfoldable pub taken_note : Language → List (List ℕ) → List Day → List ℕ
taken_note l head days = unread_note l head ++ few_lines l (text_in l texts.WARNING) (map counts_of days)

-- `table` means the days `days`, and `note` is the note on `table`.
pub record IsTaken (l : Language) (options : OptionTexts) (table : List ℕ) (days : List Day) (note : List ℕ)
    : Type 0 where
  pub means : TableMeans options table days
  pub head : List (List ℕ)
  pub has : HasHead table head
  pub is : note ≡ taken_note l head days

-- The table means a list of days, and the note on the table was written.
abbrev pub TellsTaken : Language → OptionTexts → List ℕ → Port → Type 0
TellsTaken l options table notes =
    (days : List Day) × (note : List ℕ) × IsTaken l options table days note × TellsText notes note

-- ---- Faults.

-- the words for a row's place, such as `row 5, ` or, if the row's day is known, `row 5 (day 3), `
abbrev pub row_place : Language → ℕ → Option ℕ → List ℕ
row_place l number None = filled (text_in l texts.ROW) (decimal number ∷ [])
row_place l number (Some day) = filled (text_in l texts.ROW_AND_DAY) (decimal number ∷ decimal day ∷ [])

-- the name of the option that replaces a blank cell, such as `--model`; empty if the cell has no option
abbrev pub option_name : Cell → List ℕ
option_name cells.Model = codes "--model"
option_name cells.Reflector = codes "--reflector"
option_name cells.Window = codes "--window"
option_name cell = []

-- the name that the table has for a cell's column; if the table lacks the column, the cell's option, such as `--model`
abbrev pub cell_name : Columns → List (List ℕ) → Cell → List ℕ
cell_name columns head cell =
    option_map_or (λ place. shown (cell_at (Some place) head)) (column_of columns cell) (option_name cell)

-- the words for the place of `cell`, such as `row 5 (day 3), rings: `; they begin with `row`, the words for the row's
-- place
abbrev pub cell_place : Columns → List (List ℕ) → List ℕ → Cell → List ℕ
cell_place columns head row cell = row ++ cell_name columns head cell ++ codes ": "

-- the day that a row has in the column of days; `None` if there is no number from 1 to 31
abbrev pub day_of_row : Columns → List (List ℕ) → Option ℕ
day_of_row columns row = day_in (cell_at columns.day row)

-- whether `row` has the day `day` in the column of days
abbrev pub has_day : Columns → ℕ → List (List ℕ) → Bool
has_day columns day row = option_map_or (λ other. other == day) (day_of_row columns row) false

-- `number` is the number of the first of `rows` with the day `day`. `numbers` are the numbers of `rows`.
pub record IsFirstWith (columns : Columns) (day : ℕ) (numbers : List ℕ) (rows : List (List (List ℕ))) (number : ℕ)
    : Type 0 where
  pub front : List (List (List ℕ))
  pub row : List (List ℕ)
  pub rest : List (List (List ℕ))
  pub split : rows ≡ front ++ row ∷ rest
  pub has : has_day columns day row ≡ true
  pub before : list_any (has_day columns day) front ≡ false
  pub numbered : IfSome (slice_get numbers (length front)) (λ due. number ≡ due)

-- `found` is the number of the first of `rows` with the day `day`; `None` if none of them has this day
abbrev pub FindsDay : Columns → ℕ → List ℕ → List (List (List ℕ)) → Option ℕ → Type 0
FindsDay columns day numbers rows None = list_any (has_day columns day) rows ≡ false
FindsDay columns day numbers rows (Some number) = IsFirstWith columns day numbers rows number

-- `found` is the number of the first of `rows` with the day of `row`; `None` if none of them has this day, or if `row`
-- has no day
abbrev pub IsEarlierRow : Columns → List ℕ → List (List (List ℕ)) → List (List ℕ) → Option ℕ → Type 0
IsEarlierRow columns numbers rows row found =
    MatchOption (day_of_row columns row) (found ≡ None) (λ day. FindsDay columns day numbers rows found)

-- the words for a day that row `number` has, too
abbrev pub same_day_words : Language → ℕ → List ℕ
same_day_words l number = filled (text_in l texts.SAME_DAY) (decimal number ∷ [])

-- `earlier` for the cell of the day, and `None` for any other cell
abbrev pub of_day_cell : Option ℕ → Cell → Option ℕ
of_day_cell earlier cells.Day = earlier
of_day_cell earlier cell = None

-- The lines on a cell. If row `earlier` has the day in the cell, there is one line, which says so. Otherwise, there is
-- at least one line if the cell's text can't be read.
abbrev pub AreCellWords : Language → OptionTexts → Columns → List (List ℕ) → Option ℕ → Cell → List (List ℕ) → Type 0
AreCellWords l options columns row earlier cell words = MatchOption (of_day_cell earlier cell)
    (is_faulty options columns row cell ≡ true → 0 < length words) (λ number. words ≡ same_day_words l number ∷ [])

-- The notes on a list of cells of `row`. Each line of the notes begins with the place of the cell that the line is
-- about. `earlier` is the number of an earlier row with the day of `row`; `None` if there is no such row.
pub data TellsCells (l : Language) (options : OptionTexts) (columns : Columns) (head : List (List ℕ)) (place : List ℕ)
    (row : List (List ℕ)) (earlier : Option ℕ) : List Cell → List ℕ → Type 0 where
  NoCells : TellsCells l options columns head place row earlier [] []
  NextCell : (cell : Cell) (rest : List Cell) (words : List (List ℕ)) (note : List ℕ)
      → AreCellWords l options columns row earlier cell words
      → TellsCells l options columns head place row earlier rest note
      → TellsCells l options columns head place row earlier (cell ∷ rest)
      (flat_map (line_at (cell_place columns head place cell)) words ++ note)

-- The notes on a row: first on the row's cells, then on the row as a whole. If the row isn't a day, there is at least
-- one note. The exception: the table lacks a column that the row needs. `rows` are the rows between the first row and
-- this row, and `numbers` their numbers.
pub record TellsRow (l : Language) (options : OptionTexts) (columns : Columns) (head : List (List ℕ))
    (numbers : List ℕ) (rows : List (List (List ℕ))) (number : ℕ) (row : List (List ℕ)) (note : List ℕ) : Type 0 where
  pub earlier : Option ℕ
  pub is_earlier : IsEarlierRow columns numbers rows row earlier
  pub of_cells : List ℕ
  pub of_row : List ℕ
  pub words : List (List ℕ)
  pub joined : note ≡ of_cells ++ of_row
  pub cells : TellsCells l options columns head (row_place l number (day_of_row columns row)) row earlier
      (row_cells (row_model options columns row)) of_cells
  pub whole : of_row ≡ flat_map (line_at (row_place l number (day_of_row columns row))) words
  pub some : IsNoDay (row_values options columns row) → has_columns options columns row ≡ true
      → 0 < length of_cells + length words

-- The notes on the rows under the first row `head`, in the order of the rows. `numbers` are the rows' numbers. Blank
-- rows have no notes.
pub data TellsRows (l : Language) (options : OptionTexts) (columns : Columns) (head : List (List ℕ)) (numbers : List ℕ)
    : List (List (List ℕ)) → List ℕ → Type 0 where
  NoneTold : TellsRows l options columns head numbers [] []
  BlankTold : (rows : List (List (List ℕ))) (note : List ℕ) (row : List (List ℕ))
      → TellsRows l options columns head numbers rows note → is_blank_row columns row ≡ true
      → TellsRows l options columns head numbers (rows ++ row ∷ []) note
  RowTold : (rows : List (List (List ℕ))) (note : List ℕ) (row : List (List ℕ)) (number : ℕ) (more : List ℕ)
      → TellsRows l options columns head numbers rows note → is_blank_row columns row ≡ false
      → IfSome (slice_get numbers (length rows)) (λ due. number ≡ due)
      → TellsRow l options columns head numbers rows number row more
      → TellsRows l options columns head numbers (rows ++ row ∷ []) (note ++ more)

abbrev pub quotes_note : Language → List ℕ
quotes_note l = line_at [] (text_in l texts.OPEN_QUOTE)

abbrev pub nothing_note : Language → List ℕ
nothing_note l = line_at [] (text_in l texts.NO_ROW)

-- whether `row` isn't blank, and needs a column that the table lacks
abbrev pub lacks_column : OptionTexts → Columns → List (List ℕ) → Bool
lacks_column options columns row = not (is_blank_row columns row) && not (has_columns options columns row)

-- There is at least one line: about columns (`missing`), on a row (`note`), or about the whole table (`words`).
abbrev pub HasSomeLine : List (List ℕ) → List ℕ → List (List ℕ) → Type 0
HasSomeLine missing note words = 0 < length missing + (length note + length words)

-- The notes on a refused table:
-- - If the table's quotes are wrong, a single line.
-- - If the table has no rows, a single line.
-- - Otherwise, the notes on unread columns, on misnamed or missing columns, on each row, and on the whole table.
--   Besides the notes on unread columns, there is at least one line. If a column is misnamed, or the table lacks a
--   column that a row needs, there is at least one line about columns. If all rows under the first row are blank, there
--   is at least one line about the whole table.
pub data TellsTable (l : Language) (options : OptionTexts) (table : List ℕ) : List ℕ → Type 0 where
  OfQuotes : is_well_quoted table ≡ false → TellsTable l options table (quotes_note l)
  OfNothing : is_well_quoted table ≡ true → AreRows table [] → TellsTable l options table (nothing_note l)
  OfRows : (head : List (List ℕ)) (rows : List (List (List ℕ))) (missing : List (List ℕ)) (note : List ℕ)
      (words : List (List ℕ)) → is_well_quoted table ≡ true → AreRows table (head ∷ rows)
      → TellsRows l options (columns_of head) head (drop 1 (row_numbers table)) rows note
      → (list_all (is_blank_row (columns_of head)) rows ≡ true → 0 < length words)
      → (is_misnamed (columns_of head) head ≡ true → 0 < length missing)
      → (list_any (lacks_column options (columns_of head)) rows ≡ true → 0 < length missing)
      → HasSomeLine missing note words
      → TellsTable l options table (unread_note l head
      ++ (flat_map (line_at (text_in l texts.FIRST_ROW)) missing ++ (note ++ flat_map (line_at []) words)))

-- The notes on a refused table were written.
abbrev pub TellsRefused : Language → OptionTexts → List ℕ → Port → Type 0
TellsRefused l options table notes = (text : List ℕ) × TellsTable l options table text × TellsText notes text

-- ---- Any table.

-- why no key sheet is made from a table; `None` if the table means days
abbrev pub table_fault : Result (Unit {0}) (WriteFault SpreadsheetFault) → Option SpreadsheetFault
table_fault (Ok done) = None
table_fault (Err Device) = None
table_fault (Err (Unwritten fault)) = Some fault

-- Which notes on `table` were written. The fourth argument says why no key sheet is made from the table:
-- - `None`: the table means days. The note on such a table was written in language `l`.
-- - `Refused`: the notes on a refused table were written. The words after a place may be in any language, except for a
--   day that an earlier row has, too.
-- - `NoMemory`: memory ran out. Notes may be missing, or in another language than `l`.
abbrev pub HasNotesOn : Language → OptionTexts → List ℕ → Option SpreadsheetFault → Port → Type 0
HasNotesOn l options table None notes = TellsTaken l options table notes
HasNotesOn l options table (Some faults.Refused) notes = TellsRefused l options table notes
HasNotesOn l options table (Some faults.NoMemory) notes = Tells notes

-- ---- Reading row by row. No public contract cites these definitions.

-- `new` is `old`, followed by the notes on a row's cells and on the row as a whole. If the row isn't a day, there is at
-- least one note. The exception: the table lacks a column that the row needs. `earlier` is the number of an earlier row
-- with the row's day; `None` if there is no such row.
pub record TellsPlacedRow (l : Language) (options : OptionTexts) (columns : Columns) (head : List (List ℕ))
    (place : List ℕ) (row : List (List ℕ)) (earlier : Option ℕ) (old new : List ℕ) : Type 0 where
  pub of_cells : List ℕ
  pub words : List (List ℕ)
  pub appended : new ≡ old ++ (of_cells ++ flat_map (line_at place) words)
  pub cells : TellsCells l options columns head place row earlier (row_cells (row_model options columns row)) of_cells
  pub some : IsNoDay (row_values options columns row) → has_columns options columns row ≡ true
      → 0 < length of_cells + length words

-- For each day below 32, `found` has the number of the first of `rows` with this day. `numbers` are the rows' numbers.
pub record KnowsDays (columns : Columns) (numbers : List ℕ) (rows : List (List (List ℕ))) (found : List (Option ℕ))
    : Type 0 where
  pub size : length found ≡ 32
  pub known : (day : ℕ) → day < 32 → FindsDay columns day numbers rows (slice_index_or found day None)

-- `text` has the notes on `rows`, and `found` has the days of `rows`. `numbers` are the numbers of all rows under the
-- first row.
pub record HasReadRows (head : Head) (numbers : List ℕ) (rows : List (List (List ℕ))) (text : List ℕ) (found : Found)
    : Type 0 where
  pub told : TellsRows head.language head.options head.columns head.names numbers rows text
  pub days : KnowsDays head.columns numbers rows found.rows

-- `new` is `old`, followed by the notes on `rows`, the rows under the first row `head`. If all these rows are blank, a
-- line about the whole table follows.
pub record HasRowsNote (l : Language) (options : OptionTexts) (columns : Columns) (head : List (List ℕ))
    (table : List ℕ) (rows : List (List (List ℕ))) (old new : List ℕ) : Type 0 where
  pub text : List ℕ
  pub words : List (List ℕ)
  pub appended : new ≡ old ++ (text ++ flat_map (line_at []) words)
  pub told : TellsRows l options columns head (drop 1 (row_numbers table)) rows text
  pub empty : list_all (is_blank_row columns) rows ≡ true → 0 < length words

-- `rows` are the rows under the first row. They have the days `days`, and there is at least one day. No column is
-- misnamed, and `note` is the note on the table.
pub record IsTakenOfRows (l : Language) (options : OptionTexts) (head : List (List ℕ)) (rows : List (List (List ℕ)))
    (days : List Day) (note : List ℕ) : Type 0 where
  pub named : is_misnamed (columns_of head) head ≡ false
  pub described : AreDaysOfRows options (columns_of head) rows days
  pub some : 0 < length days
  pub is : note ≡ taken_note l head days

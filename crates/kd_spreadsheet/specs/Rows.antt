-- How the bytes of a table are split into rows and cells.
-- Test: tests/cases/curator-sheet.toml
use Rattle.std.specs.Prelude.{ℕ, ◌==◌, ◌||◌, Bool, true, false, List, [], ◌∷◌, find, if◌then◌else◌}
use Rattle.std.specs.Option.{option_map_or}
use Rattle.csv.specs.Reading.{default_config, strip_bom}
use Rattle.csv.specs.declared.parser.Config.{Config}
use Rattle.kd_spreadsheet.specs.declared.quotes.Quoting.{Quoting}
use Rattle.kd_spreadsheet.specs.declared.quotes.Quoting.TheVariants.{CellStart, Unquoted, Quoted, Closed, Wrong}

-- whether a byte may separate cells: a comma, a semicolon or a tab
abbrev pub is_separator : ℕ → Bool
is_separator byte = byte == 44 || byte == 59 || byte == 9

-- The separator of a table's cells: the first comma, semicolon or tab of the table. If the table has none of these, a
-- comma.
abbrev pub separator_of : List ℕ → ℕ
separator_of table = option_map_or (λ byte. byte) (find is_separator table) 44

-- The settings by which the library `csv` reads a table. `separator` stands between cells. In a quoted cell, two quotes
-- stand for one quote. CR, LF or both end a row.
abbrev pub separated : ℕ → Config
separated separator = record default_config { delimiter = separator }

-- whether `byte` ends a cell: it is `separator`, CR or LF
abbrev pub ends_cell : ℕ → ℕ → Bool
ends_cell separator byte = byte == separator || byte == 13 || byte == 10

-- the state of quotes in a table after `byte`; before `byte`, the state is `quoting`
abbrev pub quoting_after_byte : ℕ → Quoting → ℕ → Quoting
quoting_after_byte separator CellStart byte =
    if byte == 34 then Quoted else if ends_cell separator byte then CellStart else Unquoted
quoting_after_byte separator Unquoted byte = if ends_cell separator byte then CellStart else Unquoted
quoting_after_byte separator Quoted byte = if byte == 34 then Closed else Quoted
quoting_after_byte separator Closed byte =
    if byte == 34 then Quoted else if ends_cell separator byte then CellStart else Wrong
quoting_after_byte separator Wrong byte = Wrong

abbrev pub quoting_after : ℕ → Quoting → List ℕ → Quoting
quoting_after separator quoting [] = quoting
quoting_after separator quoting (byte ∷ rest) = quoting_after separator (quoting_after_byte separator quoting byte) rest

abbrev pub may_end : Quoting → Bool
may_end CellStart = true
may_end Unquoted = true
may_end Quoted = false
may_end Closed = true
may_end Wrong = false

-- whether each quoted cell of a table is closed, and ends with its closing quote
abbrev pub is_well_quoted : List ℕ → Bool
is_well_quoted table = may_end (quoting_after (separator_of table) CellStart (strip_bom table))

-- The cells of a table's row, one for each value of a day. This file says in which column each cell is, and whether a
-- cell's text can be read.
-- Test: tests/cases/curator-sheet.toml
use Rattle.std.specs.Prelude.{ℕ, nat_le, ◌&&◌, ◌||◌, not, Bool, true, false, List, [], ◌∷◌, is_some, slice_index_or, Option, Some, None, if◌then◌else◌}
use Rattle.std.specs.List.{list_all}
use Rattle.std.specs.Option.{option_map_or, option_and_then}
use Rattle.kd_tables.specs.Rings.{ring_of}
use Rattle.kd_tables.specs.Tables.{by_family, family_of, slots_of}
use Rattle.kd_tables.specs.declared.model.Model.{Model}
use Rattle.kd_sheet.specs.PinWheels.{pins_of_text}
use Rattle.kd_spreadsheet.specs.Columns.{cell_or}
use Rattle.kd_spreadsheet.specs.Items.{exactly, groups_in, is_blank, joined, letters_in, number_in, pairs_in, readings_in, wheels_in}
use Rattle.kd_spreadsheet.specs.Names.{model_named, reflector_named}
use Rattle.kd_spreadsheet.specs.Steps.{◌>>=◌}
use Rattle.kd_spreadsheet.specs.declared.cell.Cell.{Cell}
use Rattle.kd_spreadsheet.specs.declared.cell.Cell.TheVariants as cells
use Rattle.kd_spreadsheet.specs.declared.columns.Columns.{Columns}
use Rattle.kd_options.specs.TableOptions.{OptionTexts}

-- the place of a cell's column; `None` if the table has no such column
abbrev pub column_of : Columns → Cell → Option ℕ
column_of columns cells.Day = columns.day
column_of columns cells.Model = columns.model
column_of columns cells.Reflector = columns.reflector
column_of columns cells.Wheels = columns.wheels
column_of columns cells.Rings = columns.rings
column_of columns cells.Window = columns.window
column_of columns cells.Plugs = columns.plugs
column_of columns cells.Groups = columns.groups
column_of columns cells.List = columns.list
column_of columns cells.Pins1 = slice_index_or columns.pins 0 None
column_of columns cells.Pins2 = slice_index_or columns.pins 1 None
column_of columns cells.Pins3 = slice_index_or columns.pins 2 None
column_of columns cells.Pins4 = slice_index_or columns.pins 3 None
column_of columns cells.Pins5 = slice_index_or columns.pins 4 None
column_of columns cells.Pins6 = slice_index_or columns.pins 5 None
column_of columns cells.Bars = columns.bars

-- the text of the cell's option (`--model`, `--reflector` or `--window`); empty if the cell has no option
abbrev pub option_of : OptionTexts → Cell → List ℕ
option_of options cells.Model = options.model
option_of options cells.Reflector = options.reflector
option_of options cells.Window = options.window
option_of options cell = []

-- the text of `cell` in `row`; if this text is blank, the text of the cell's option, such as `--model`
abbrev pub text_of : OptionTexts → Columns → List (List ℕ) → Cell → List ℕ
text_of options columns row cell = cell_or (option_of options cell) (column_of columns cell) row

-- whether the table has the cell's column, or the cell's option (such as `--model`) isn't blank
abbrev pub has_text : OptionTexts → Columns → Cell → Bool
has_text options columns cell = is_some (column_of columns cell) || not (is_blank (option_of options cell))

-- ---- Which cells a row has.

-- the cells that a rotor machine's day has besides its number and its model
abbrev pub rotor_cells : List Cell
rotor_cells = cells.Reflector ∷ cells.Wheels ∷ cells.Rings ∷ cells.Window ∷ cells.Plugs ∷ cells.Groups ∷ []

-- the cells that a Converter's day has besides its number and its model
abbrev pub pin_cells : List Cell
pin_cells =
    cells.List ∷ cells.Window ∷ cells.Pins1 ∷ cells.Pins2 ∷ cells.Pins3 ∷ cells.Pins4 ∷ cells.Pins5 ∷ cells.Pins6
    ∷ cells.Bars ∷ []

-- the cells that a day of `model` has besides its number and its model
abbrev pub cells_of : Model → List Cell
cells_of model = by_family rotor_cells pin_cells (family_of model)

-- the model of a row; `None` if the model's name can't be read
abbrev pub row_model : OptionTexts → Columns → List (List ℕ) → Option Model
row_model options columns row = model_named (text_of options columns row cells.Model)

-- All cells in a row for `model`. If `model` is `None`, only the day's number and the model.
abbrev pub row_cells : Option Model → List Cell
row_cells model = cells.Day ∷ cells.Model ∷ option_map_or cells_of model []

-- whether the table may lack the cell's column; this is so only for the column of groups
abbrev pub is_optional : Cell → Bool
is_optional cells.Groups = true
is_optional cell = false

-- whether the table has each column that the row's model needs; an option, such as `--model`, can replace a column
abbrev pub has_columns : OptionTexts → Columns → List (List ℕ) → Bool
has_columns options columns row =
    list_all (λ cell. is_optional cell || has_text options columns cell) (row_cells (row_model options columns row))

-- ---- Which cells can be read.

abbrev pub is_day : ℕ → Bool
is_day number = nat_le 1 number && nat_le number 31

-- the day's number in the text of a cell; `None` if the text isn't a number from 1 to 31
abbrev pub day_in : List ℕ → Option ℕ
day_in text = option_and_then (λ number. if is_day number then Some number else None) (number_in text)

abbrev pub slots : Option Model → ℕ
slots model = option_map_or slots_of model 0

-- whether the text can be read as the effective pins of wheel `wheel`
abbrev pub are_pins : ℕ → List ℕ → Bool
are_pins wheel text = is_some (joined text >>= pins_of_text (ring_of wheel))

-- how many window letters a machine of `model` has; 0 if `model` is `None`
abbrev pub windows : Option Model → ℕ
windows (Some model) = by_family (slots_of model) 6 (family_of model)
windows None = 0

-- whether a text can be read as the value of a cell, in a row for `model`
abbrev pub is_read : Option Model → Cell → List ℕ → Bool
is_read model cells.Day text = is_some (day_in text)
is_read model cells.Model text = is_some (model_named text)
is_read model cells.Reflector text = is_some (option_and_then (λ known. reflector_named known text) model)
is_read model cells.Wheels text = is_some (wheels_in text >>= exactly (slots model))
is_read model cells.Rings text = is_some (letters_in text >>= exactly (slots model))
is_read model cells.Window text = is_some (letters_in text >>= exactly (windows model))
is_read model cells.Plugs text = is_some (pairs_in text)
is_read model cells.Groups text = is_some (groups_in text)
is_read model cells.List text = is_some (letters_in text >>= exactly 2)
is_read model cells.Pins1 text = are_pins 1 text
is_read model cells.Pins2 text = are_pins 2 text
is_read model cells.Pins3 text = are_pins 3 text
is_read model cells.Pins4 text = are_pins 4 text
is_read model cells.Pins5 text = are_pins 5 text
is_read model cells.Pins6 text = are_pins 6 text
is_read model cells.Bars text = is_some (readings_in text >>= exactly 27)

-- Whether the text of `cell` in `row` can't be read. False if the table lacks the cell's column, and no option, such as
-- `--model`, replaces it.
abbrev pub is_faulty : OptionTexts → Columns → List (List ℕ) → Cell → Bool
is_faulty options columns row cell =
    has_text options columns cell
    && not (is_read (row_model options columns row) cell (text_of options columns row cell))

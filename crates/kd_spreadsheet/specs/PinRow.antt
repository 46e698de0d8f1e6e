-- The values of a Converter's day in a row of a table.
-- Test: tests/cases/curator-sheet.toml
use Rattle.std.specs.Prelude.{ℕ, Bool, List, slice_index_or, Option, Some, None}
use Rattle.kd_tables.specs.Rings.{ring_of}
use Rattle.kd_pins.specs.declared.pin_set.PinSet.{PinSet}
use Rattle.kd_state.specs.SheetDay.{PinDay, pin_day_of}
use Rattle.kd_sheet.specs.PinWheels.{pins_of_text}
use Rattle.kd_spreadsheet.specs.Columns.{cell_at, cell_or}
use Rattle.kd_spreadsheet.specs.Items.{number_in, letters_in, readings_in, exactly, joined}
use Rattle.kd_spreadsheet.specs.Steps.{◌>>=◌}
use Rattle.kd_spreadsheet.specs.declared.columns.Columns.{Columns}
use Rattle.kd_options.specs.TableOptions.{OptionTexts}

-- The pins of the wheel with the letters `ring`. The cell in column `column` has the letters of the wheel's effective
-- pins. `None` if the table lacks the column, or the cell can't be read.
abbrev pub pins_at : List ℕ → Option ℕ → List (List ℕ) → Option (List Bool)
pins_at ring column row = do
  place ← column
  text ← joined (cell_at (Some place) row)
  pins_of_text ring text

-- The pins of all six wheels. Wheels 1 to 3 have the pins `one`, `two` and `three`. The pins of wheels 4 to 6 come from
-- the cells of `row`.
abbrev pub pins_after : List (Option ℕ) → List (List ℕ) → List Bool → List Bool → List Bool → Option PinSet
pins_after columns row one two three = do
  four ← pins_at (ring_of 4) (slice_index_or columns 3 None) row
  five ← pins_at (ring_of 5) (slice_index_or columns 4 None) row
  six ← pins_at (ring_of 6) (slice_index_or columns 5 None) row
  Some (record { w1 = one; w2 = two; w3 = three; w4 = four; w5 = five; w6 = six })

-- the pins of all six wheels in a row; `None` if the pins of a wheel can't be read
unfoldable pub pins_in : List (Option ℕ) → List (List ℕ) → Option PinSet
pins_in columns row = do
  one ← pins_at (ring_of 1) (slice_index_or columns 0 None) row
  two ← pins_at (ring_of 2) (slice_index_or columns 1 None) row
  three ← pins_at (ring_of 3) (slice_index_or columns 2 None) row
  pins_after columns row one two three

-- the values of a Converter's day in a row. The option `--window` replaces blank window letters.
unfoldable pub pin_values : OptionTexts → Columns → List (List ℕ) → Option PinDay
pin_values options columns row = do
  number ← number_in (cell_at columns.day row)
  list ← letters_in (cell_at columns.list row) >>= exactly 2
  pins ← pins_in columns.pins row
  window ← letters_in (cell_or options.window columns.window row) >>= exactly 6
  rows ← readings_in (cell_at columns.bars row) >>= exactly 27
  Some (pin_day_of number rows pins window list)

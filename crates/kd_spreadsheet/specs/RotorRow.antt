-- The values of a rotor machine's day in a row of a table.
-- Test: tests/cases/curator-sheet.toml
use Rattle.std.specs.Prelude.{ℕ, List, [], ◌∷◌, Option, Some, None}
use Rattle.std.specs.Option.{option_map}
use Rattle.kd_tables.specs.declared.model.Model.{Model}
use Rattle.kd_tables.specs.declared.wheel.Wheel.{Wheel}
use Rattle.kd_state.specs.SheetDay.{RotorDay, rotor_day_of}
use Rattle.kd_state.specs.declared.sheet_day.rotor_entry.SheetWheel.{SheetWheel}
use Rattle.kd_spreadsheet.specs.Columns.{cell_at, cell_or}
use Rattle.kd_spreadsheet.specs.Items.{number_in, wheels_in, letters_in, pairs_in, groups_in}
use Rattle.kd_spreadsheet.specs.Names.{reflector_named}
use Rattle.kd_spreadsheet.specs.Steps.{◌>>=◌}
use Rattle.kd_spreadsheet.specs.declared.columns.Columns.{Columns}
use Rattle.kd_options.specs.TableOptions.{OptionTexts}

-- The wheels, each with its ring and its window letter. `None` if the lists of wheels, rings and letters have different
-- lengths, or a slot is empty.
abbrev pub wheels_with : List (Option Wheel) → List ℕ → List ℕ → Option (List SheetWheel)
wheels_with [] [] [] = Some []
wheels_with (Some wheel ∷ wheels) (ring ∷ rings) (letter ∷ letters) =
    option_map (λ rest. record { wheel = wheel; ring = ring; letter = letter } ∷ rest) (wheels_with wheels rings letters)
wheels_with _ _ _ = None

-- the wheels of a row, with their rings and window letters. The option `--window` replaces blank window letters.
abbrev pub seated_in : OptionTexts → Columns → List (List ℕ) → Option (List SheetWheel)
seated_in options columns row = do
  wheels ← wheels_in (cell_at columns.wheels row)
  rings ← letters_in (cell_at columns.rings row)
  window ← letters_in (cell_or options.window columns.window row)
  wheels_with wheels rings window

-- The plugged pairs of a row. `None` if the table lacks the column of pairs. A missing column doesn't mean a day
-- without pairs, because the column's name may be mistyped.
abbrev pub plugs_in : Columns → List (List ℕ) → Option (List (ℕ × ℕ))
plugs_in columns row = do
  place ← columns.plugs
  pairs_in (cell_at (Some place) row)

-- the values of a rotor machine's day in a row. The option `--reflector` replaces a blank reflector.
unfoldable pub rotor_values : OptionTexts → Columns → List (List ℕ) → Model → Option RotorDay
rotor_values options columns row model = do
  number ← number_in (cell_at columns.day row)
  reflector ← reflector_named model (cell_or options.reflector columns.reflector row)
  seated ← seated_in options columns row
  pairs ← plugs_in columns row
  groups ← groups_in (cell_at columns.groups row)
  Some (rotor_day_of number model reflector seated pairs groups)

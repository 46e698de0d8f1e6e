-- How a key sheet is read, key by key in the order of testing. The result is the days that the sheet describes, or the
-- first fault.
-- Test: tests/cases/desk-files.toml
use Rattle.std.specs.Prelude.{ℕ, nat_eq, nat_le, ◌==◌, not, List, [], ◌∷◌, Option, Some, Result, Ok, ok_or}
use Rattle.std.specs.List.{list_any}
use Rattle.std.specs.Option.{option_and_then, option_map_or}
use Rattle.toml.specs.Data.{Data, string, Members, get_member, as_table}
use Rattle.kd_tables.specs.Tables.{by_family, family_of, slots_of}
use Rattle.kd_tables.specs.declared.model.Model.{Model}
use Rattle.kd_tables.specs.declared.wheel.Wheel.{Wheel}
use Rattle.kd_state.specs.SheetDay.{Day, Rotor, Pin, day_number}
use Rattle.kd_state.specs.declared.sheet_day.rotor_entry.SheetWheel.{SheetWheel}
use Rattle.kd_sheet.specs.Cables.{pairs_in}
use Rattle.kd_sheet.specs.Document.{◌>>=◌, ◌>>◌, demand, document_of, read_items, read_at, from_text}
use Rattle.kd_sheet.specs.Document.{as_items, read_array}
use Rattle.kd_sheet.specs.Bars.{rows_in}
use Rattle.kd_sheet.specs.Key.{key_name}
use Rattle.kd_sheet.specs.Letters.{capital_letters, letters_at}
use Rattle.kd_sheet.specs.MachineFile.{model_in, reflector_in}
use Rattle.kd_sheet.specs.Numbers.{number_up_to, letters_of_numbers}
use Rattle.kd_sheet.specs.PinWheels.{shown_letters_in, pins_in}
use Rattle.kd_sheet.specs.Slots.{slots_in}
use Rattle.kd_sheet.specs.Sheet.{month_of}
use Rattle.kd_sheet.specs.declared.key.Key.TheVariants as keys
use Rattle.kd_sheet.specs.declared.fault.SheetFault.{SheetFault}
use Rattle.kd_sheet.specs.declared.fault.SheetFault.TheVariants.{BadValue, DayTwice}

-- exactly `count` rings, read from a text of capital letters such as `ABC`, or from an array of numbers, where 1 is A
abbrev pub rings_of : ℕ → Data → Option (List ℕ)
rings_of count (string text) = capital_letters (nat_eq count) text
rings_of count value = option_and_then (letters_of_numbers count) (as_items value)

unfoldable pub group_for : List (List ℕ) → Data → Result (List ℕ) SheetFault
group_for earlier item = ok_or (from_text (capital_letters (nat_eq 3)) item) (BadValue keys.Groups)

unfoldable pub groups_in : Members → Result (List (List ℕ)) SheetFault
groups_in table =
    option_map_or (read_array keys.Groups (λ n. nat_le n 4) group_for) (get_member (key_name keys.Groups) table) (Ok [])

-- the wheels of the slots, each with its ring and its window letter
abbrev pub sheet_wheels : List (Option Wheel) → List ℕ → List ℕ → List SheetWheel
sheet_wheels (Some wheel ∷ slots) (ring ∷ rings) (letter ∷ letters) =
    record { wheel = wheel; ring = ring; letter = letter } ∷ sheet_wheels slots rings letters
sheet_wheels _ _ _ = []

unfoldable pub rotor_day_in : ℕ → Model → Members → Result Day SheetFault
rotor_day_in number model table = do
  reflector ← reflector_in model table
  slots ← slots_in keys.Wheels model table
  rings ← read_at keys.Rings (rings_of (slots_of model)) table
  window ← letters_at keys.Window (slots_of model) table
  pairs ← pairs_in table
  groups ← groups_in table
  wheels ← Ok (sheet_wheels slots rings window)
  Ok (Rotor
      (record { day = number; model = model; reflector = reflector; wheels = wheels; pairs = pairs; groups = groups }))

unfoldable pub pin_day_in : ℕ → Members → Result Day SheetFault
pin_day_in number table = do
  rows ← rows_in table
  pins ← pins_in table
  window ← shown_letters_in keys.Window table
  list ← letters_at keys.List 2 table
  Ok (Pin (record { day = number; rows = rows; pins = pins; window = window; list = list }))

unfoldable pub day_in : ℕ → Model → Members → Result Day SheetFault
day_in number model table = by_family (rotor_day_in number model table) (pin_day_in number table) (family_of model)

-- the day that `item` describes, or the item's first fault; `days` are the days of the items before `item`
unfoldable pub day_for : List Day → Data → Result Day SheetFault
day_for days item = do
  table ← ok_or (as_table item) (BadValue keys.Day)
  number ← read_at keys.Day (number_up_to 31) table
  demand (not (list_any (λ day. day_number day == number) days)) (DayTwice number)
  model ← model_in table
  day_in number model table

-- the month that a key sheet's table describes, or the table's first fault
abbrev pub sheet_in : Members → Result (List (Option Day)) SheetFault
sheet_in table = read_at keys.Day as_items table >>= read_items day_for >>= (λ days. Ok (month_of days))

-- the month that a key sheet's bytes describe, or the sheet's first fault
abbrev pub sheet_of : List ℕ → Result (List (Option Day)) SheetFault
sheet_of bytes = document_of bytes >>= sheet_in

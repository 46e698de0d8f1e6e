-- How the wheels in slots are read from a machine file or a day, item by item from the left.
-- Test: tests/cases/desk-files.toml
use Rattle.std.specs.Prelude.{nat_eq, ◌+◌, false, not, List, [], length, Option, Some, None, Result, Ok}
use Rattle.std.specs.Prelude.{ok_or}
use Rattle.std.specs.List.{list_any}
use Rattle.std.specs.Option.{option_map_or}
use Rattle.toml.specs.Data.{Data, string, Members}
use Rattle.kd_tables.specs.Tables.{slots_of, wheels_for, box_of, wheel_text}
use Rattle.kd_tables.specs.declared.model.Model.{Model}
use Rattle.kd_tables.specs.declared.model.Model.TheVariants.{M4}
use Rattle.kd_tables.specs.declared.wheel.Wheel.{Wheel}
use Rattle.kd_state.specs.SameParts.{same_wheel}
use Rattle.kd_sheet.specs.Document.{◌>>=◌, ◌>>◌, demand, value_at, from_text, read_array}
use Rattle.kd_sheet.specs.Names.{find_by_text}
use Rattle.kd_sheet.specs.declared.key.Key.{Key}
use Rattle.kd_sheet.specs.declared.key.Key.TheVariants as keys
use Rattle.kd_sheet.specs.declared.fault.SheetFault.{SheetFault}
use Rattle.kd_sheet.specs.declared.fault.SheetFault.TheVariants.{BadValue, WheelTwice, WheelNotAllowed}

-- The wheel that `item` names for a slot, or the first fault. `slots` are the slots to the left of this slot.
-- - `BadValue`: `item` names no wheel.
-- - `WheelNotAllowed`: the model doesn't allow the wheel in this slot, or doesn't have the wheel at all.
-- - `WheelTwice`: one of `slots` has the wheel.
unfoldable pub wheel_for : Key → Model → List (Option Wheel) → Data → Result Wheel SheetFault
wheel_for key model slots item = do
  wheel ← ok_or (from_text (find_by_text wheel_text (box_of M4)) item) (BadValue key)
  demand (list_any (same_wheel wheel) (wheels_for model (length slots + 1))) WheelNotAllowed
  demand (not (list_any (λ slot. option_map_or (same_wheel wheel) slot false) slots)) WheelTwice
  Ok wheel

-- What a slot has: the wheel that `item` names. In a machine file, the item `""` means an empty slot. `slots` are the
-- slots to the left of this slot.
unfoldable pub slot_for : Key → Model → List (Option Wheel) → Data → Result (Option Wheel) SheetFault
slot_for keys.Slots model slots (string []) = Ok None
slot_for key model slots item = wheel_for key model slots item >>= (λ wheel. Ok (Some wheel))

unfoldable pub slots_in : Key → Model → Members → Result (List (Option Wheel)) SheetFault
slots_in key model table = value_at key table >>= read_array key (nat_eq (slots_of model)) (slot_for key model)

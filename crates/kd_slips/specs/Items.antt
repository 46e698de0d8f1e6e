-- The item number in a slip. A slip says in words why a value is refused. If the slip has an item number, its words
-- are about this list item: the first one that the desk's reader refuses.
-- Test: tests/cases/curator-look.toml
use Rattle.std.specs.Prelude.{◌≡◌, ℕ, ◌==◌, not, Bool, true, List, length, find, Option, Some, None, is_some}
use Rattle.std.specs.Prelude.{if◌then◌else◌}
use Rattle.std.specs.List.{range_with_len}
use Rattle.std.specs.Option.{option_and_then, option_map_or}
use Rattle.toml.specs.Data.{Data, Members, get_member}
use Rattle.kd_tables.specs.Rings.{ring_of}
use Rattle.kd_state.specs.SameParts.{numbered_item}
use Rattle.kd_sheet.specs.Document.{as_items, from_text}
use Rattle.kd_sheet.specs.Key.{key_name}
use Rattle.kd_sheet.specs.PinWheels.{pins_of_text}
use Rattle.kd_sheet.specs.declared.fault.SheetFault.{SheetFault}
use Rattle.kd_sheet.specs.declared.fault.SheetFault.TheVariants.{BadRow, BadValue, Missing}
use Rattle.kd_sheet.specs.declared.key.Key.{Key}
use Rattle.kd_sheet.specs.declared.key.Key.TheVariants as keys
use Rattle.kd_slips.specs.declared.slip.Slip.{Slip}
use Rattle.kd_slips.specs.declared.slip.Slip.TheVariants as slips

-- The slip has the fault `fault` and the item number `item`, or it is `NoMemory`.
abbrev pub HasFault : SheetFault → Option ℕ → Slip → Type 0
HasFault fault item (slips.Fault found told words) = (found ≡ fault) × (told ≡ item)
HasFault fault item slips.NoMemory = Unit {0}

-- The slip has the item number `item`, or it is `NoMemory`.
abbrev pub IsOfItem : Option ℕ → Slip → Type 0
IsOfItem item (slips.Fault found told words) = told ≡ item
IsOfItem item slips.NoMemory = Unit {0}

-- the row number in a fault; `None` if the fault has none
abbrev pub row_in : SheetFault → Option ℕ
row_in (BadRow number) = Some number
row_in fault = None

-- The slip's item number is the row number that its fault gives, or the slip is `NoMemory`. If the fault gives no row
-- number, the slip has no item number.
abbrev pub IsOfItsRow : Slip → Type 0
IsOfItsRow (slips.Fault found told words) = told ≡ row_in found
IsOfItsRow slips.NoMemory = Unit {0}

-- the fault at `key`: `BadValue` if there is a value, otherwise `Missing`
abbrev pub type_fault : Key → Option Data → SheetFault
type_fault key value = if is_some value then BadValue key else Missing key

-- The number of the first item that can't be read, counted from 1. `reads` takes an item's number and the item, and
-- says whether the item can be read.
abbrev pub first_refused : (ℕ → Data → Bool) → List Data → Option ℕ
first_refused reads items =
    find (λ number. not (option_map_or (reads number) (numbered_item items number) true)) (range_with_len 1 (length items))

-- whether the desk can read `item` as the pins of wheel `wheel`
unfoldable pub reads_pins : ℕ → Data → Bool
reads_pins wheel item = is_some (from_text (pins_of_text (ring_of wheel)) item)

-- The number of the first wheel whose pins the desk refuses. `None` if the list at the key `pins` doesn't have six
-- items, one for each wheel.
unfoldable pub refused_pins : Members → Option ℕ
refused_pins table = option_map_or (λ items. if length items == 6 then first_refused reads_pins items else None)
    (option_and_then as_items (get_member (key_name keys.Pins) table)) None

-- The letters that the Converter's six wheels show, and the wheels' effective pins.
-- Test: tests/cases/desk-files.toml
use Rattle.std.specs.Prelude.{ℕ, nat_eq, ◌+◌, ◌&&◌, Bool, List, [], length, map, Option, Some, None, Result, Ok}
use Rattle.std.specs.Prelude.{ok_or, if◌then◌else◌}
use Rattle.std.specs.List.{list_all, enumerate_from}
use Rattle.toml.specs.Data.{Data, Members}
use Rattle.kd_tables.specs.Rings.{ring_of}
use Rattle.kd_tables.specs.Text.{letters_text}
use Rattle.kd_pins.specs.declared.pin_set.PinSet.{PinSet}
use Rattle.kd_state.specs.Pins.{pin_set}
use Rattle.kd_tables.specs.Pairs.{has_letter, are_new_and_distinct}
use Rattle.kd_sheet.specs.Document.{◌>>=◌, ◌>>◌, demand, value_at, from_text, read_array, read_items}
use Rattle.kd_sheet.specs.Letters.{letters_at}
use Rattle.kd_sheet.specs.declared.key.Key.{Key}
use Rattle.kd_sheet.specs.declared.key.Key.TheVariants as keys
use Rattle.kd_sheet.specs.declared.fault.SheetFault.{SheetFault}
use Rattle.kd_sheet.specs.declared.fault.SheetFault.TheVariants.{BadValue}

-- The letters that the six wheels show, from wheel 1 to wheel 6, read from the text at `key`. Each letter must be on
-- its wheel.
unfoldable pub shown_letters_in : Key → Members → Result (List ℕ) SheetFault
shown_letters_in key table = do
  letters ← letters_at key 6 table
  demand (list_all (λ numbered. has_letter (ring_of numbered.0) numbered.1) (enumerate_from 1 letters)) (BadValue key)
  Ok letters

-- The pins of a wheel, in the order of the wheel's letters `ring`. A pin is effective if `text` has the pin's letter.
-- The result is `None` if a byte of `text` isn't a capital letter of the wheel, or comes twice.
unfoldable pub pins_of_text : List ℕ → List ℕ → Option (List Bool)
pins_of_text ring text =
    if list_all (has_letter (letters_text ring)) text && are_new_and_distinct text []
    then Some (map (has_letter text) (letters_text ring)) else None

-- The pins of a wheel, read from the wheel's item. The list `earlier` has the pins of all wheels before this wheel, so
-- its length tells which wheel this is.
abbrev pub pins_for : List (List Bool) → Data → Result (List Bool) SheetFault
pins_for earlier item = ok_or (from_text (pins_of_text (ring_of (length earlier + 1))) item) (BadValue keys.Pins)

-- the pins of the six wheels, which the array at the key `pins` describes
unfoldable pub pins_in : Members → Result PinSet SheetFault
pins_in table = value_at keys.Pins table >>= read_array keys.Pins (nat_eq 6) pins_for >>= (λ pins. Ok (pin_set pins))

-- ---- Reading items one by one. No public contract cites this definition.

-- the pins of the six wheels, from a list of six items: the first item is for wheel 1, and so on
abbrev pub pins_of_items : List Data → Result PinSet SheetFault
pins_of_items items = read_items pins_for items >>= (λ pins. Ok (pin_set pins))

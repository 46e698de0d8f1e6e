-- How the values in a TOML document are read. Each step gives a value or a fault. The steps of a `do` block run in
-- order, and the first fault is the result of the block.
-- Source: TOML 1.1, toml.io.
-- Code: the library `toml` parses the document, and `?` returns the first fault.
-- Test: tests/cases/desk-files.toml
use Rattle.std.specs.Prelude.{ℕ, Bool, List, [], ◌∷◌, length, Option, Result, Ok, Err, ok_or, option_map}
use Rattle.std.specs.Prelude.{if◌then◌else◌}
use Rattle.std.specs.Option.{option_and_then}
use Rattle.std.specs.Result.{result_map_both}
use Rattle.std.specs.Str.{is_utf8}
use Rattle.toml.specs.Data.{Data, Items, no_items, item, Members, get_member, as_str, as_array}
use Rattle.toml.specs.Parse.{parse_document}
pub use Rattle.kd_state.specs.FirstFault.{◌>>=◌, ◌>>◌, demand}
use Rattle.kd_sheet.specs.Key.{key_name}
use Rattle.kd_sheet.specs.declared.key.Key.{Key}
use Rattle.kd_sheet.specs.declared.fault.SheetFault.{SheetFault}
use Rattle.kd_sheet.specs.declared.fault.SheetFault.TheVariants.{NotToml, Missing, BadValue}

-- The values that `parse` reads from a list of items, or the first fault. For each item, `parse` gets the values of the
-- items before it, and the item itself.
abbrev pub read_items : {A : Type 0} → (List A → Data → Result A SheetFault) → List Data → Result (List A) SheetFault
read_items parse [] = Ok []
read_items parse (first ∷ rest) = do
  value ← parse [] first
  values ← read_items (λ earlier. parse (value ∷ earlier)) rest
  Ok (value ∷ values)

unfoldable pub document_of : List ℕ → Result Members SheetFault
document_of bytes = if is_utf8 bytes then ok_or (parse_document bytes) NotToml else Err NotToml

abbrev pub value_at : Key → Members → Result Data SheetFault
value_at key table = ok_or (get_member (key_name key) table) (Missing key)

-- The value that `parse` reads at `key`. The fault is `Missing` if the key is absent, and `BadValue` if `parse` gives
-- `None`.
abbrev pub read_at : {A : Type 0} → Key → (Data → Option A) → Members → Result A SheetFault
read_at key parse table = value_at key table >>= (λ value. ok_or (parse value) (BadValue key))

abbrev pub from_text : {A : Type 0} → (List ℕ → Option A) → Data → Option A
from_text parse value = option_and_then parse (as_str value)

abbrev pub items_list : Items → List Data
items_list no_items = []
items_list (item first rest) = first ∷ items_list rest

abbrev pub as_items : Data → Option (List Data)
as_items value = option_map items_list (as_array value)

-- The values that `parse` reads from the items of the array `value`, or the first fault. The fault is `BadValue` if
-- `value` isn't an array, or if `fits` is false for the number of items.
abbrev pub read_array : {A : Type 0} → Key → (ℕ → Bool) → (List A → Data → Result A SheetFault) → Data
    → Result (List A) SheetFault
read_array key fits parse value = do
  items ← ok_or (as_items value) (BadValue key)
  demand (fits (length items)) (BadValue key)
  read_items parse items

-- ---- What inner functions answer. No public contract cites this definition.

-- the result `answer`, but with `view` applied to the value if there is one; a fault stays as it is
abbrev pub result_map : {A B : Type 0} → (A → B) → Result A SheetFault → Result B SheetFault
result_map view answer = result_map_both view (λ fault. fault) answer

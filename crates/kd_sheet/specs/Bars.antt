-- How bars are read: their standings from a machine file, and their readings from a key sheet. A standing such as
-- `1-0R` names the places of a bar's two lugs. A reading such as `0-1` has the numbers of the wheels at these places;
-- the number is 0 at a place without a wheel.
-- Test: tests/cases/desk-files.toml
use Rattle.std.specs.Prelude.{ℕ, nat_eq, ◌+◌, ◌-◌, ◌==◌, ◌&&◌, ◌||◌, nat_le, not, List, [], ◌∷◌, length, Option}
use Rattle.std.specs.Prelude.{Some, None, Result, ok_or, if◌then◌else◌}
use Rattle.std.specs.List.{list_all}
use Rattle.toml.specs.Data.{Data, Members}
use Rattle.kd_tables.specs.Places.{smaller_first, standings, standing_text}
use Rattle.kd_tables.specs.declared.place.Place.{Place}
use Rattle.kd_sheet.specs.Document.{◌>>=◌, value_at, from_text, read_array}
use Rattle.kd_sheet.specs.Names.{find_by_text}
use Rattle.kd_sheet.specs.declared.key.Key.TheVariants as keys
use Rattle.kd_sheet.specs.declared.fault.SheetFault.{SheetFault}
use Rattle.kd_sheet.specs.declared.fault.SheetFault.TheVariants.{BadRow}

-- The value that `parse` reads from the text `item`. If `parse` can't read it, the fault is `BadRow` with the item's
-- number, counted from 1.
abbrev pub or_bad_row : {A : Type 0} → (List ℕ → Option A) → List A → Data → Result A SheetFault
or_bad_row parse earlier item = ok_or (from_text parse item) (BadRow (length earlier + 1))

unfoldable pub bars_in : Members → Result (List (Place × Place)) SheetFault
bars_in table =
    value_at keys.Bars table >>= read_array keys.Bars (nat_eq 27) (or_bad_row (find_by_text standing_text standings))

-- The reading that a row's text means, the smaller number first: `3-0` and `0-3` mean 0 and 3. Both digits are from 0
-- to 6. They differ, or both are 0.
unfoldable pub reading_of_text : List ℕ → Option (ℕ × ℕ)
reading_of_text (one ∷ dash ∷ other ∷ []) =
    if list_all (λ x. nat_le 48 x && nat_le x 54) (one ∷ other ∷ []) && dash == 45 && (not (one == other) || one == 48)
    then Some (smaller_first (one - 48) (other - 48)) else None
reading_of_text _ = None

unfoldable pub rows_in : Members → Result (List (ℕ × ℕ)) SheetFault
rows_in table = value_at keys.Rows table >>= read_array keys.Rows (nat_eq 27) (or_bad_row reading_of_text)

-- How the cables of a machine file and the pairs of a key sheet are read, item by item.
-- Test: tests/cases/desk-files.toml
use Rattle.std.specs.Prelude.{ℕ, ◌-◌, nat_eq, nat_le, List, [], ◌∷◌, ◌++◌, length, replicate, slice_get, slice_index}
use Rattle.std.specs.Prelude.{Option, None, Result, Ok, ok_or}
use Rattle.std.specs.List.{flat_map}
use Rattle.std.specs.Option.{option_map_or}
use Rattle.toml.specs.Data.{Data, Members, get_member}
use Rattle.kd_state.specs.Machine.{letters_in_cables}
use Rattle.kd_tables.specs.Pairs.{are_new_and_distinct}
use Rattle.kd_sheet.specs.Document.{◌>>=◌, ◌>>◌, demand, value_at, from_text, read_array}
use Rattle.kd_sheet.specs.Key.{key_name}
use Rattle.kd_sheet.specs.Letters.{capital_letters}
use Rattle.kd_sheet.specs.declared.key.Key.TheVariants as keys
use Rattle.kd_sheet.specs.declared.fault.SheetFault.{SheetFault}
use Rattle.kd_sheet.specs.declared.fault.SheetFault.TheVariants.{BadValue, LetterTwice}

-- The cable that an item describes, or a fault. The cable's letters must differ from each other, and from the letters
-- of the earlier cables.
unfoldable pub cable_for : List (Option ℕ × Option ℕ) → Data → Result (Option ℕ × Option ℕ) SheetFault
cable_for cables item = do
  letters ← ok_or (from_text (capital_letters (λ n. nat_le n 2)) item) (BadValue keys.Cables)
  demand (are_new_and_distinct letters (letters_in_cables cables)) LetterTwice
  Ok (slice_get letters 0, slice_get letters 1)

-- The 13 cables of a machine file: first the cables in the array `cables`, then empty cables. If the file has no array
-- `cables`, all 13 cables are empty.
unfoldable pub cables_in : Members → Result (List (Option ℕ × Option ℕ)) SheetFault
cables_in table = do
  cables ← option_map_or (read_array keys.Cables (λ n. nat_le n 13) cable_for) (get_member (key_name keys.Cables) table)
      (Ok [])
  Ok (cables ++ replicate (13 - length cables) (None, None))

-- The pair that an item describes, or a fault. The pair's letters must differ from each other, and from the letters of
-- the earlier pairs.
unfoldable pub pair_for : List (ℕ × ℕ) → Data → Result (ℕ × ℕ) SheetFault
pair_for pairs item = do
  letters ← ok_or (from_text (capital_letters (nat_eq 2)) item) (BadValue keys.Plugs)
  demand (are_new_and_distinct letters (flat_map (λ pair. pair.0 ∷ pair.1 ∷ []) pairs)) LetterTwice
  Ok (slice_index letters 0, slice_index letters 1)

unfoldable pub pairs_in : Members → Result (List (ℕ × ℕ)) SheetFault
pairs_in table = value_at keys.Plugs table >>= read_array keys.Plugs (λ n. nat_le n 13) pair_for

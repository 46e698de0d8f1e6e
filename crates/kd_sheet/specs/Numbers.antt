-- Whole numbers in files.
-- Source: key sheets of the war give ring settings as the numbers 01 to 26.
-- Test: tests/cases/desk-files.toml
use Rattle.std.specs.Prelude.{ℕ, ◌&&◌, ◌-◌, ◌==◌, nat_le, pos, List, length, map, Option, Some, None, is_some}
use Rattle.std.specs.Prelude.{if◌then◌else◌}
use Rattle.std.specs.List.{list_all, filter_map}
use Rattle.toml.specs.Data.{Data, integer}

-- the whole number in a TOML value, if it is from 1 to `last`
abbrev pub number_up_to : ℕ → Data → Option ℕ
number_up_to last (integer (pos number)) = if nat_le 1 number && nat_le number last then Some number else None
number_up_to last _ = None

-- the letters that the numbers in `items` mean, if there are exactly `count` numbers, each from 1 (A) to 26 (Z)
abbrev pub letters_of_numbers : ℕ → List Data → Option (List ℕ)
letters_of_numbers count items =
    if length items == count && list_all (λ item. is_some (number_up_to 26 item)) items
    then Some (map (λ number. number - 1) (filter_map (number_up_to 26) items)) else None

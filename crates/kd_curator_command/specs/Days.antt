-- The days that the argument DAYS names, for example `2`, `1-31` or `1,4,2`.
-- Code: `days_of_word` adds the days of one range after another to an array of at most 31.
-- Test: tests/cases/curator-pages.toml, tests/cases/curator-words.toml
use Rattle.std.specs.Prelude.{decimal, ◌≡◌, ℕ, ◌+◌, ◌-◌, ◌<◌, ◌≤◌, ◌==◌, nat_lt, nat_le, ◌||◌, Bool, false, List, [], ◌∷◌, ◌++◌}
use Rattle.std.specs.Prelude.{length, find, Option, Some, None, IfSome, option_map, if◌then◌else◌, bytes_eq}
use Rattle.std.specs.List.{list_any, range_with_len, slice_split, position_or_len, before_first, after_first}

abbrev pub is_comma : ℕ → Bool
is_comma byte = byte == 44

abbrev pub is_hyphen : ℕ → Bool
is_hyphen byte = byte == 45

-- the day, from 1 to 31, whose decimal number is `text`
unfoldable pub day_named : List ℕ → Option ℕ
day_named text = find (λ day. bytes_eq (decimal day) text) (range_with_len 1 31)

-- all days from `first` to `last`
abbrev pub days_from : ℕ → ℕ → List ℕ
days_from first last = range_with_len first (last + 1 - first)

abbrev pub days_between : Option ℕ → Option ℕ → Option (List ℕ)
days_between (Some first) (Some last) = if nat_le first last then Some (days_from first last) else None
days_between _ _ = None

-- The days of a range: `3` gives one day, and `3-7` gives all days from 3 to 7.
unfoldable pub range_named : List ℕ → Option (List ℕ)
range_named text =
    if nat_lt (position_or_len is_hyphen text) (length text)
    then days_between (day_named (before_first is_hyphen text)) (day_named (after_first is_hyphen text))
    else option_map (λ day. day ∷ []) (day_named text)

abbrev pub both : Option (List ℕ) → Option (List ℕ) → Option (List ℕ)
both (Some days) (Some more) = Some (days ++ more)
both _ _ = None

abbrev pub ranges_named : List (List ℕ) → Option (List ℕ)
ranges_named [] = Some []
ranges_named (range ∷ ranges) = both (range_named range) (ranges_named ranges)

-- the days of a word such as `1,4-6`, which is a list of ranges with commas between them
unfoldable pub days_named : List ℕ → Option (List ℕ)
days_named word = ranges_named (slice_split is_comma word)

-- whether the list has a day twice
abbrev pub has_twice : List ℕ → Bool
has_twice [] = false
has_twice (day ∷ days) = list_any (λ other. other == day) days || has_twice days

-- `word` names `days`, in this order. There are at most 31 days, and no day comes twice.
pub record AreDays (word : List ℕ) (days : List ℕ) : Type 0 where
  pub named : days_named word ≡ Some days
  pub few : length days ≤ 31
  pub once : has_twice days ≡ false

-- The list `new` has the days of `old`, and then the days `more`. Adding fails (`None`) if `more` is `None`, or if
-- there would be more than 31 days.
abbrev pub AddsDays : Option (List ℕ) → List ℕ → List ℕ → Option (Unit {0}) → Type 0
AddsDays more old new (Some done) = (option_map (λ days. old ++ days) more ≡ Some new) × (length new ≤ 31)
AddsDays more old new None = IfSome more (λ days. 31 < length (old ++ days))

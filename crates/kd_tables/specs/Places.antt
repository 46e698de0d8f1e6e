-- A bar of the Converter M-209's drum: its eight places, and its two lugs.
-- Test: bars_have_28_standings
use Rattle.std.specs.Prelude.{codes, ◌≡◌, ℕ, ◌+◌, ◌<◌, ◌≤◌, nat_lt, min, max, List, [], ◌∷◌, ◌++◌, map, filter}
use Rattle.std.specs.Prelude.{flat_map}
use Rattle.kd_tables.specs.declared.place.Place.{Place}
use Rattle.kd_tables.specs.declared.place.Place.TheVariants.{One, ZeroLeft, Two, Three, Four, Five, ZeroRight, Six}
use Rattle.kd_tables.specs.declared.lug.Lug.{Lug}
use Rattle.kd_tables.specs.declared.lug.Lug.TheVariants as lugs

-- for each place: its name, how many places are to its left, and its pin wheel's number (0 if no wheel acts there)
abbrev pub place_table : Place → List ℕ × ℕ × ℕ
place_table One = (codes "1", 0, 1)
place_table ZeroLeft = (codes "0L", 1, 0)
place_table Two = (codes "2", 2, 2)
place_table Three = (codes "3", 3, 3)
place_table Four = (codes "4", 4, 4)
place_table Five = (codes "5", 5, 5)
place_table ZeroRight = (codes "0R", 6, 0)
place_table Six = (codes "6", 7, 6)

-- the name of a place in machine files and cards
abbrev pub place_text : Place → List ℕ
place_text place = (place_table place).0

-- how many of a bar's places are to the left of `place`
abbrev pub place_rank : Place → ℕ
place_rank place = (place_table place).1

-- the number of the pin wheel that acts at `place`, or 0 if no wheel acts there
abbrev pub place_number : Place → ℕ
place_number place = (place_table place).2

-- the places of a bar, from left to right
abbrev pub places : List Place
places = One ∷ ZeroLeft ∷ Two ∷ Three ∷ Four ∷ Five ∷ ZeroRight ∷ Six ∷ []

-- The place `first` is to the left of the place `second`.
abbrev pub IsBefore : Place → Place → Type 0
IsBefore first second = place_rank first < place_rank second

-- the name of a lug in cards
abbrev pub lug_text : Lug → List ℕ
lug_text lugs.Left = codes "L"
lug_text lugs.Right = codes "R"

-- ---- How a bar can stand: the places of its left and its right lug.
-- Code: `Standing::new` compares the two places; `Standing::from_text` splits a standing's text at the hyphen.

-- all standings of a bar, ordered by the left lug's place, then by the right lug's place
abbrev pub standings : List (Place × Place)
standings = flat_map (λ l. map (λ r. (l, r)) (filter (λ r. nat_lt (place_rank l) (place_rank r)) places)) places

-- the text of a bar's standing: the names of its two places, with `-` between them
abbrev pub standing_text : Place × Place → List ℕ
standing_text standing = place_text standing.0 ++ codes "-" ++ place_text standing.1

-- ---- How a bar reads: the numbers of the wheels at its lugs' places, the smaller one first.

-- the two numbers, the smaller one first
abbrev pub smaller_first : ℕ → ℕ → ℕ × ℕ
smaller_first a b = (min a b, max a b)

-- The two numbers are a reading. Both are from 0 to 6, and the smaller one comes first. The numbers differ, or both are
-- 0.
pub record IsReading (numbers : ℕ × ℕ) : Type 0 where
  pub ordered : numbers.0 ≤ numbers.1
  pub within : numbers.1 ≤ 6
  pub equal : numbers.0 ≡ numbers.1 → numbers.0 ≡ 0

-- the reading of a bar with the standing `standing`: the numbers of the pin wheels at its two lugs, the smaller number
-- first
abbrev pub reading_of : Place × Place → ℕ × ℕ
reading_of standing = smaller_first (place_number standing.0) (place_number standing.1)

-- a number below 10, as the text of its digit
abbrev pub digit_text : ℕ → List ℕ
digit_text number = (number + 48) ∷ []

-- the text of a reading: its two numbers, with `-` between them
abbrev pub reading_text : ℕ × ℕ → List ℕ
reading_text numbers = digit_text numbers.0 ++ codes "-" ++ digit_text numbers.1

-- ---- Reading a standing. No public contract cites this definition.

-- The two texts are the names of the left lug's place and of the right lug's place.
abbrev pub ArePlaceNames : Place × Place → List ℕ → List ℕ → Type 0
ArePlaceNames standing left right = (place_text standing.0 ≡ left) × (place_text standing.1 ≡ right)

-- How keys with prices are grouped into kinds, and how a key's price is found among kinds. A kind stands for equal
-- cables, columns, bars or rows. Its key is the cable's letters, the column's pair, the bar's standing or the row's
-- reading. No public contract cites this file.
use Rattle.std.specs.Prelude.{IsPermutation, List, Option, replicate, unsigned_abs, ◌++◌}
use Rattle.std.specs.{List.{Contains, Sorted.IsSorted}, Prelude.{All, map, ℤ, ◌∷◌, ◌≡◌, ◌≢◌, ◌≤◌}}
use Rattle.kd_card.specs.{Kinds.{AreKinds, ComesAfter, KindFormat, expansion, key_cmp}, declared.kinds.KindOf.KindOf}

-- `pairs` is a list of keys, each with a price. Equal keys have equal prices.
abbrev pub HaveOnePriceEach : {X : Type 0} → List (X × ℤ) → Type 0
HaveOnePriceEach {X} pairs =
    (key : X) (price other : ℤ) → Contains pairs (key, price) → Contains pairs (key, other) → price ≡ other

-- The key is valid on a card, and the price is from -9999 to 9999.
abbrev pub IsValidKeyAndPrice : {K X : Type 0} → KindFormat K X → X × ℤ → Type 0
IsValidKeyAndPrice format pair = format.InForm pair.0 × (unsigned_abs pair.1 ≤ 9999)

-- a kind with the count 1, made from `pair`: a key and its price
abbrev pub kind_of_one : {X : Type 0} → X × ℤ → KindOf X
kind_of_one pair = record { key = pair.0; count = 1; price = pair.1 }

-- The keys are in ascending order, as on the lines of a card.
abbrev pub AreSorted : {K X : Type 0} → KindFormat K X → List (X × ℤ) → Type 0
AreSorted format pairs = IsSorted (λ one other. key_cmp format one.0 other.0) pairs

-- The keys with prices in `pairs` can be grouped into valid kinds. The keys ascend, and equal keys have equal prices.
-- Each key is valid on a card, and each price is from -9999 to 9999.
pub record CanBeKinds {K X : Type 0} (format : KindFormat K X) (pairs : List (X × ℤ)) : Type 0 where
  pub sorted : AreSorted format pairs
  pub one_price : HaveOnePriceEach pairs
  pub fine : All (IsValidKeyAndPrice format) pairs

-- The list `new` is the list `old`, followed by added kinds. A kind is expanded by repeating its key and price as
-- often as its count says.
-- - Expanded, the added kinds are the expansion of `kind`, and then `pairs`.
-- - If the keys of `kind` and `pairs` can be grouped into valid kinds, the added kinds are valid and strictly
--   ascending.
-- - If the key of `kind` also comes after a kind `last`, all added kinds come after `last`.
pub record AppendsKinds {K X : Type 0} (format : KindFormat K X) (kind : KindOf X) (pairs : List (X × ℤ))
    (old new : List K) : Type 0 where
  pub made : List K
  pub is : new ≡ old ++ made
  pub expand : expansion (map format.kind made) ≡ replicate kind.count (kind.key, kind.price) ++ pairs
  pub in_order : (last : Option K) → CanBeKinds format ((kind.key, kind.price) ∷ pairs)
      → ((first : K) → (format.kind first).key ≡ kind.key → ComesAfter format last first)
      → AreKinds format last made

-- ---- how the price of a key is found among kinds

-- No kind in `kinds` has both the key `key` and a count above 0.
abbrev pub HasNoneLeft : {X : Type 0} → List (KindOf X) → X → Type 0
HasNoneLeft kinds key = All (λ pair. pair.0 ≢ key) (expansion kinds)

-- The kinds `kinds` stand for the same keys and prices as `left`, in any order, and for one more `key` with the price
-- `price`. For example, a kind has the count 3 in `kinds`, and the count 2 in `left`.
abbrev pub TakesOne : {X : Type 0} → List (KindOf X) → X → ℤ → List (KindOf X) → Type 0
TakesOne kinds key price left = IsPermutation (expansion kinds) ((key, price) ∷ expansion left)

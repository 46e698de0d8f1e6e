-- A tree of rows and columns, as in the Hungarian method. It grows from a row that has no column yet. A column's
-- ceiling is the lowest price that a row of the tree offers for it. The row that offers this price is the column's
-- nearest row. No public contract cites this file.
use Rattle.std.specs.Prelude.{◌≡◌, ℕ, ◌<◌, Bool, false, List, slice_index, slice_index_or, ◌⊎◌}
use Rattle.std.specs.Prelude.{ℤ, pos, neg_ℤ, ◌+ℤ◌, ◌-ℤ◌, ◌≤ℤ◌}
use Rattle.kd_assign.specs.Prices.{cost_at, price_at}

-- whether the tree has column `j`
abbrev pub has_column : List Bool → ℕ → Bool
has_column reached j = slice_index_or reached j false

-- the room of column `j`: its ceiling minus its price
abbrev pub room_at : List ℤ → List ℤ → ℕ → ℤ
room_at ceilings prices j = price_at ceilings j -ℤ price_at prices j

-- No column's price is above the column's ceiling, and all prices and ceilings are from -128 to 4.
pub record AreWithinCeilings (n : ℕ) (prices ceilings : List ℤ) : Type 0 where
  pub low : (j : ℕ) → j < n → neg_ℤ (pos 128) ≤ℤ price_at prices j
  pub between : (j : ℕ) → j < n → price_at prices j ≤ℤ price_at ceilings j
  pub high : (j : ℕ) → j < n → price_at ceilings j ≤ℤ pos 4

-- Column `end` has the least room (its ceiling minus its price) of all columns outside the tree.
pub record IsNearest (n : ℕ) (prices : List ℤ) (reached : List Bool) (ceilings : List ℤ) (end : ℕ) : Type 0 where
  pub within : end < n
  pub outside : has_column reached end ≡ false
  pub least : (j : ℕ) → j < n → has_column reached j ≡ false → room_at ceilings prices end ≤ℤ room_at ceilings prices j

-- What happens to a column if `row` offers the price `offer` for it. Before the offer, the column's nearest row is
-- `near`, and its ceiling is `ceiling`. After the offer, they are `near'` and `ceiling'`. A column outside the tree
-- takes the lower of the two prices, and the row that offers it. A column of the tree (`reached`) stays as it is.
pub record IsCompared (reached : Bool) (row : ℕ) (offer : ℤ) (near : ℕ) (ceiling : ℤ)
    (near' : ℕ) (ceiling' : ℤ) : Type 0 where
  pub one : ((near' ≡ near) × (ceiling' ≡ ceiling)) ⊎ ((reached ≡ false) × (near' ≡ row) × (ceiling' ≡ offer))
  pub least : ceiling' ≤ℤ ceiling
  pub here : reached ≡ false → ceiling' ≤ℤ offer

-- Each column gets an offer from `row`, as in `IsCompared`. The offer for column `j` is `level` plus the cost in row
-- `row` and column `j`.
pub record AreCompared (n : ℕ) (cost : List (List ℕ)) (reached : List Bool) (row : ℕ) (level : ℤ) (near : List ℕ)
    (ceilings : List ℤ) (near' : List ℕ) (ceilings' : List ℤ) : Type 0 where
  pub at : (j : ℕ) → j < n
      → IsCompared (has_column reached j) row (level +ℤ pos (cost_at cost row j))
      (slice_index near j) (price_at ceilings j) (slice_index near' j) (price_at ceilings' j)

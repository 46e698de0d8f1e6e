-- Lists of prices that fit a table of costs. No public contract cites this file.
use Rattle.std.specs.Prelude.{ℕ, ◌<◌, List, slice_index, ℤ, pos, ◌+ℤ◌, ◌≤ℤ◌}
use Rattle.kd_card.specs.Prices.{cost_at, price_at}

-- The prices of row `i` and column `j` add up to at most the cost in their cell.
abbrev pub ListsFitAt : List (List ℕ) → List ℤ → List ℤ → ℕ → ℕ → Type 0
ListsFitAt costs rows columns i j = (price_at rows i +ℤ price_at columns j) ≤ℤ pos (cost_at costs i j)

-- The row's `price` plus the price of column `j` is at most the row's cost in column `j`.
abbrev pub FitsAtColumn : List ℕ → ℤ → List ℤ → ℕ → Type 0
FitsAtColumn costs price columns j = (price +ℤ price_at columns j) ≤ℤ pos (slice_index costs j)

-- `place` is the first of `number` places, counted from 0, where `Holds` is false.
pub record IsFirstPlaceWithout (Holds : ℕ → Type 0) (number place : ℕ) : Type 0 where
  pub within : place < number
  pub here : ¬ (Holds place)
  pub before : (j : ℕ) → j < place → Holds j

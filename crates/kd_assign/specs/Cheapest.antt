-- A lower bound for the cost of assignments: the sum of prices that fit.
-- Source: the assignment problem and its dual.
-- Code: `assign` doesn't try assignments one by one, but grows a tree from each row.
-- Test: answers_small_tables, answers_three_rows
use Rattle.std.specs.Prelude.{◌≡◌, ℕ, ◌≤◌, List, length, ℤ, pos, ◌≤ℤ◌}
use Rattle.kd_assign.specs.Prices.{FitCosts, price_sum}
use Rattle.kd_assign.specs.Assignment.{IsOneToOne, assignment_cost}

-- Prices fit if, for each row and each column, the two prices add up to at most the cost in their cell. Then every
-- one-to-one assignment costs at least the sum of all prices.
abbrev pub FittingPricesBoundCosts : Type 0
FittingPricesBoundCosts =
    (cost : List (List ℕ)) (row col : List ℤ) (to : List ℕ) →
    length row ≡ length to → length col ≡ length to → length cost ≡ length to →
    FitCosts cost row col → IsOneToOne to → price_sum row col ≤ℤ pos (assignment_cost cost to)

-- Every one-to-one assignment costs at least `total`.
abbrev pub IsLeastCost : List (List ℕ) → ℕ → Type 0
IsLeastCost cost total = (to : List ℕ) → length to ≡ length cost → IsOneToOne to → total ≤ assignment_cost cost to

-- `to` is a one-to-one assignment that costs `total`, and no one-to-one assignment costs less.
pub record IsCheapestAssignment (cost : List (List ℕ)) (to : List ℕ) (total : ℕ) : Type 0 where
  pub one_to_one : IsOneToOne to
  pub cost_is : assignment_cost cost to ≡ total
  pub least : IsLeastCost cost total

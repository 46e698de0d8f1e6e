-- Prices of the rows and columns of a table of costs. Prices fit if, for each row and each column, the two prices add
-- up to at most the cost in their cell. Rows and columns are counted from 0.
-- Source: the assignment problem and its dual.
-- Code: `assign` lowers the columns' prices once for each tree, and computes the rows' prices last.
-- Test: answers_three_rows
use Rattle.std.specs.Prelude.{ℕ, ◌<◌, ◌≤◌, All, List, [], ◌∷◌, length, slice_index, slice_index_or, ℤ, pos, ◌+ℤ◌, ◌≤ℤ◌}

-- the cost in row `i` and column `j` of the table
abbrev pub cost_at : List (List ℕ) → ℕ → ℕ → ℕ
cost_at cost i j = slice_index (slice_index_or cost i []) j

-- No cost in the table is above `greatest`.
abbrev pub AreCostsAtMost : ℕ → List (List ℕ) → Type 0
AreCostsAtMost greatest cost = All (λ line. All (λ c. c ≤ greatest) line) cost

-- price `i` of the list, counted from 0; a missing price counts as 0
abbrev pub price_at : List ℤ → ℕ → ℤ
price_at prices i = slice_index_or prices i (pos 0)

-- The prices fit: for each row and each column, the two prices add up to at most the cost in their cell. Such prices
-- are a feasible dual solution.
abbrev pub FitCosts : List (List ℕ) → List ℤ → List ℤ → Type 0
FitCosts cost row col =
    (i j : ℕ) → i < length row → j < length col → (price_at row i +ℤ price_at col j) ≤ℤ pos (cost_at cost i j)

-- the sum of a list of prices
abbrev pub sum_of : List ℤ → ℤ
sum_of [] = pos 0
sum_of (price ∷ prices) = price +ℤ sum_of prices

-- the sum of the prices of all rows and all columns
abbrev pub price_sum : List ℤ → List ℤ → ℤ
price_sum row col = sum_of row +ℤ sum_of col

-- An assignment gives each row a column. Item `i` of the list is the column of row `i`, counted from 0.
-- Test: answers_three_rows, answers_small_tables, answers_the_largest_tables
use Rattle.std.specs.Prelude.{ℕ, ◌+◌, ◌<◌, ◌≢◌, List, [], ◌∷◌, length, slice_index, All, AllPairs}

-- Each row has a column, and no two rows have the same column.
pub record IsOneToOne (to : List ℕ) : Type 0 where
  pub in_range : All (λ j. j < length to) to
  pub distinct : AllPairs (λ j k. j ≢ k) to

-- the cost of the assignment `to`: the sum of the costs of all rows, each in its column
abbrev pub assignment_cost : List (List ℕ) → List ℕ → ℕ
assignment_cost [] to = 0
assignment_cost (line ∷ cost) [] = 0
assignment_cost (line ∷ cost) (j ∷ to) = slice_index line j + assignment_cost cost to

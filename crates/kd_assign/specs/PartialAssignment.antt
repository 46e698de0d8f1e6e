-- A partial assignment: some rows have a column, and others don't have one yet. For each column, the list `holders`
-- has the column's row, or `None` if the column is free. No public contract cites this file.
use Rattle.std.specs.Prelude.{◌≡◌, ℕ, ◌*◌, ◌<◌, List, length, Option, Some, None, is_some, slice_index_or, count_by, ℤ}
use Rattle.std.specs.Prelude.{pos, ◌+ℤ◌, ◌≤ℤ◌}
use Rattle.kd_assign.specs.Prices.{cost_at, price_at}

-- Row `i` has column `j`, according to `holders`.
abbrev pub IsColumnTakenBy : List (Option ℕ) → ℕ → ℕ → Type 0
IsColumnTakenBy holders j i = slice_index_or holders j None ≡ Some i

-- Column `j` is free: no row has it, according to `holders`.
abbrev pub IsColumnFree : List (Option ℕ) → ℕ → Type 0
IsColumnFree holders j = slice_index_or holders j None ≡ None

-- Row `i` has a column, according to `holders`.
abbrev pub IsRowAssigned : List (Option ℕ) → ℕ → Type 0
IsRowAssigned holders i = (j : ℕ) × IsColumnTakenBy holders j i

-- Column `j` is the cheapest for row `i`: its cost in row `i` minus its price is the least of all columns.
abbrev pub IsCheapestColumn : ℕ → List (List ℕ) → List ℤ → ℕ → ℕ → Type 0
IsCheapestColumn n cost prices i j =
    (k : ℕ) → k < n → (pos (cost_at cost i j) +ℤ price_at prices k) ≤ℤ (pos (cost_at cost i k) +ℤ price_at prices j)

-- The rows before row `next` have columns, and the other rows have none. At the prices `prices`, each of these columns
-- is the cheapest for its row.
pub record IsSolvedUpTo (n : ℕ) (cost : List (List ℕ)) (prices : List ℤ)
    (holders : List (Option ℕ)) (next : ℕ) : Type 0 where
  pub places : length holders ≡ n
  pub rows : (i j : ℕ) → IsColumnTakenBy holders j i → i < n
  pub seated : (i : ℕ) → i < next → IsRowAssigned holders i
  pub count : count_by is_some holders ≡ next
  pub cheapest : (i j : ℕ) → IsColumnTakenBy holders j i → IsCheapestColumn n cost prices i j
  -- each free column has price 0; if no column is free, some column still has price 0
  pub free : (j : ℕ) → j < n → IsColumnFree holders j → price_at prices j ≡ pos 0
  pub zero : (j : ℕ) × (j < n) × (price_at prices j ≡ pos 0)
  -- each price is at most 0, and at least -4 times the number of assigned rows
  pub high : (j : ℕ) → j < n → price_at prices j ≤ℤ pos 0
  pub low : (j : ℕ) → j < n → pos 0 ≤ℤ (price_at prices j +ℤ pos (4 * next))

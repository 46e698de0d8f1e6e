-- What holds of a tree while it grows, and of the assignment that is kept for each of its rows.
use Rattle.std.proofs.Common.{◌≡◌, ◌≢◌, ℕ, ◌<◌, ◌≤◌, Bool, false, true, List, [], length, slice_index, Option, None}
use Rattle.std.proofs.Common.{is_some, slice_index_or, ℤ, ◌≤ℤ◌}
use Rattle.kd_assign.specs.PartialAssignment.{IsColumnTakenBy, IsCheapestColumn, IsRowAssigned}
use Rattle.kd_assign.specs.Tree.{AreWithinCeilings, has_column, room_at}

module _ (n : ℕ) (cost : List (List ℕ)) (prices : List ℤ) (holders : List (Option ℕ)) (root : ℕ) (reached : List Bool)
    (ceilings : List ℤ) where
  -- `plan` gives a column to each row from 0 to `root`, except row `out`. It uses the same columns as `holders`, and
  -- agrees with `holders` outside the tree. If the ceilings are taken as prices, each column of the tree is the
  -- cheapest column for the row to which `plan` gives it.
  pub record IsAssignmentWithout (plan : List (Option ℕ)) (out : ℕ) : Type 0 where
    pub places : length plan ≡ n
    pub out_in_range : out < n
    pub rows : (i j : ℕ) → IsColumnTakenBy plan j i → i < n
    pub seated : (i : ℕ) → i ≤ root → i ≢ out → IsRowAssigned plan i
    pub cheapest : (i j : ℕ) → j < n → has_column reached j ≡ true → IsColumnTakenBy plan j i
        → IsCheapestColumn n cost ceilings i j
    pub same : (j : ℕ) → has_column reached j ≡ false → slice_index_or plan j None ≡ slice_index_or holders j None
    pub taken : (j : ℕ) → is_some (slice_index_or plan j None) ≡ is_some (slice_index_or holders j None)

  -- Each column of the tree has a row. A column's room is its ceiling minus its price. No column of the tree has more
  -- room than a column outside the tree. If the ceilings are taken as prices, each column outside the tree is the
  -- cheapest column of its nearest row. If row `i` is the nearest row of a column outside the tree, `plans` has an
  -- assignment of columns to the rows from 0 to `root`, except row `i`.
  pub record IsGrownTree (near : List ℕ) (plans : List (List (Option ℕ))) : Type 0 where
    pub places : length reached ≡ n
    pub plan_places : length plans ≡ n
    pub close : AreWithinCeilings n prices ceilings
    pub taken : (j : ℕ) → has_column reached j ≡ true → is_some (slice_index_or holders j None) ≡ true
    pub ordered : (j k : ℕ) → j < n → k < n → has_column reached j ≡ true → has_column reached k ≡ false
        → room_at ceilings prices j ≤ℤ room_at ceilings prices k
    pub cheapest : (j : ℕ) → j < n → has_column reached j ≡ false
        → IsCheapestColumn n cost ceilings (slice_index near j) j
    pub plan : (j : ℕ) → j < n → has_column reached j ≡ false
        → IsAssignmentWithout (slice_index_or plans (slice_index near j) []) (slice_index near j)

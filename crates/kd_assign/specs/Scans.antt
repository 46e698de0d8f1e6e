-- How often `assign` compares a column with a row. It grows a tree for each of `n` rows.
use Rattle.std.specs.Prelude.{ℕ, zero, suc, ◌+◌, ◌-◌, ◌*◌, ◌/◌, ◌≤◌}

-- `scans` is the number of comparisons for a table of `n` rows. It is at least `n * n`: one for each cell. It is at
-- most 1 + 4 + ... + `n * n`: the number if all `n` trees grow to their full size.
pub record IsScanCount (n scans : ℕ) : Type 0 where
  pub least : n * n ≤ scans
  pub most : scans ≤ n * (n + 1) * (2 * n + 1) / 6

-- ---- The comparisons for one tree. No public contract cites this definition.

-- the number of comparisons for a tree of `rows` rows, in a table of `n` columns: `n` for the first row, `n - 1` for
-- the second, and so on
abbrev pub scans_of_tree : ℕ → ℕ → ℕ
scans_of_tree n zero = 0
scans_of_tree n (suc rows) = scans_of_tree n rows + (n - rows)

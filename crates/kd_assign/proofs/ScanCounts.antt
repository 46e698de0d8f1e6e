-- How many comparisons trees take: bounds, and sums in closed form.
use Rattle.std.proofs.Common.{◌≡◌, ℕ, zero, suc, ◌+◌, ◌*◌, ◌/◌, ◌<◌, ◌≤◌, ◌^◌, inl, inr, arith, add-one}
use Rattle.std.proofs.Common.{Bool, List, count_by, false, length, set, true}
use Rattle.kd_assign.proofs.Places.{count-reached}
use Rattle.kd_assign.proofs.Prelude.{cases_eq, count_by-le-length, has_column, length-set, scans_of_tree}

-- the number of comparisons for `trees` trees: the first tree has one row, and each next tree has one row more
abbrev pub scans_of_trees : ℕ → ℕ → ℕ
scans_of_trees n zero = 0
scans_of_trees n (suc trees) = scans_of_trees n trees + scans_of_tree n (suc trees)

-- a tree of more rows takes no fewer comparisons
pub scans_of_tree-grows : (n few rows : ℕ) → few ≤ rows → scans_of_tree n few ≤ scans_of_tree n rows
scans_of_tree-grows n few zero h = let same : few ≡ 0 = omega arith in rw same (omega arith)
scans_of_tree-grows n few (suc rows) h = elim (cases_eq few (suc rows)) [
  | inl same ↦ rw same (omega arith)
  | inr other ↦ (let fewer = scans_of_tree-grows n few rows (omega arith) in omega arith)
]

-- in a table of at most 32 columns each row takes at most 32 comparisons
pub scans_of_tree-most : (n rows : ℕ) → n ≤ 32 → scans_of_tree n rows ≤ 32 * rows
scans_of_tree-most n zero h = omega arith
scans_of_tree-most n (suc rows) h = let fewer = scans_of_tree-most n rows h in omega arith

-- a tree has at least one row, which takes `n` comparisons
pub scans_of_tree-least : (n rows : ℕ) → n ≤ scans_of_tree n (rows + 1)
scans_of_tree-least n rows = grind (arith, scans_of_tree-grows n 1 (rows + 1) (omega arith))

-- once column `k` and the row that holds it have joined the tree, this row is compared with the columns outside
pub scans_of_tree-more : (n start scans new : ℕ) (reached : List Bool) (k : ℕ) → length reached ≡ n → k < n
    → has_column reached k ≡ false → scans ≡ start + scans_of_tree n (count_by (λ r. r) reached + 1)
    → new + count_by (λ r. r) (set reached k true) ≡ scans + n
    → new ≡ start + scans_of_tree n (count_by (λ r. r) (set reached k true) + 1)
scans_of_tree-more n start scans new reached k places inside outside is counted =
    grind (arith, count-reached, count_by-le-length, length-set, add-one)

-- while a tree grows, the counter has room for one more row
pub scans_of_tree-room : (n start scans : ℕ) (reached : List Bool) → n ≤ 32 → start ≤ 2 ^ 16 → length reached ≡ n
    → scans ≡ start + scans_of_tree n (count_by (λ r. r) reached + 1) → scans + n < 2 ^ 32
scans_of_tree-room n start scans reached few room places is =
    let most = scans_of_tree-most n (count_by (λ r. r) reached + 1) few in
    omega (arith, most, count_by-le-length (λ r. r) reached)

pub scans_of_trees-most : (n trees : ℕ) → n ≤ 32 → trees ≤ n → scans_of_trees n trees ≤ 1024 * trees
scans_of_trees-most n zero h few = omega arith
scans_of_trees-most n (suc trees) h few = grind (arith, scans_of_trees-most n trees h (omega arith), scans_of_tree-most)

-- the comparisons of one tree, in closed form
scans_of_tree-closed : (n rows : ℕ) → rows ≤ n → 2 * scans_of_tree n rows + rows * rows ≡ 2 * (n * rows) + rows
scans_of_tree-closed n zero h = omega arith
scans_of_tree-closed n (suc rows) h = let fewer = scans_of_tree-closed n rows (omega arith) in omega arith

-- the comparisons of `trees` trees, in closed form
scans_of_trees-closed : (n trees : ℕ) → trees ≤ n →
    6 * scans_of_trees n trees + trees * trees * trees ≡ 3 * (n * (trees * trees)) + 3 * (n * trees) + trees
scans_of_trees-closed n zero h = omega arith
scans_of_trees-closed n (suc trees) h = grind (arith, scans_of_trees-closed n trees (omega arith), scans_of_tree-closed)

-- the comparisons of `n` trees, one for each row
pub scans_of_trees-all : (n : ℕ) → scans_of_trees n n ≤ n * (n + 1) * (2 * n + 1) / 6
scans_of_trees-all n =
    let is : 6 * scans_of_trees n n ≡ n * (n + 1) * (2 * n + 1) =
    omega (arith, scans_of_trees-closed n n (omega arith)) in
    omega arith

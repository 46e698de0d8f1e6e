-- Lists with the row of each column: which columns are taken, and what changing one entry changes.
use Rattle.std.proofs.Common.{◌≡◌, ◌≢◌, ℕ, suc, ◌+◌, ◌-◌, ◌<◌, ◌≤◌}
use Rattle.std.proofs.Common.{List, [], ◌∷◌, length, get_or, set, Bool, true, false}
use Rattle.std.proofs.Common.{Option, Some, None, is_some, count_by, cond, ◌⊎◌, refl, arith}
use Rattle.kd_assign.proofs.Prelude.{cases_eq, cases_lt, get_or_past, get_or-set_same, get_or-set_other, sum_by-set}
use Rattle.kd_assign.proofs.Prelude.{count_by-le-length, length-set, none-some}
use Rattle.kd_assign.proofs.Prelude.{sum_by-cons, IsColumnTakenBy, IsColumnFree, has_column}

-- a column that is taken lies within the list
pub length-IsColumnTakenBy : (xs : List (Option ℕ)) (j i : ℕ) → IsColumnTakenBy xs j i → j < length xs
length-IsColumnTakenBy xs j i h = grind (arith, cases_lt, get_or_past, none-some)

-- after a write to `k`, column `k` has what was written, and every other column what it had
pub get_or-set-cases : (xs : List (Option ℕ)) (k : ℕ) (v w : Option ℕ) (j : ℕ) → k < length xs →
    get_or (set xs k v) j None ≡ w → ((j ≡ k) × (v ≡ w)) ⊎ ((j ≢ k) × (get_or xs j None ≡ w))
get_or-set-cases xs k v w j h e = grind (arith, cases_eq, get_or-set_same, get_or-set_other)

-- how a write changes the number of taken columns
pub count-set : (xs : List (Option ℕ)) (k : ℕ) (v : Option ℕ) → k < length xs →
    count_by is_some (set xs k v) + cond (is_some (get_or xs k None)) 1 0 ≡ count_by is_some xs + cond (is_some v) 1 0
count-set xs k v h = sum_by-set (λ x. cond (is_some x) 1 0) xs k v None h

pub count-reached : (reached : List Bool) (k : ℕ) → k < length reached → has_column reached k ≡ false →
    count_by (λ r. r) (set reached k true) ≡ count_by (λ r. r) reached + 1
count-reached reached k h e = grind (arith, sum_by-set (λ (r : Bool). cond r 1 0) reached k true false h)

-- once column `k` has joined the tree, fewer columns are outside
pub fewer-outside : (reached : List Bool) (k : ℕ) → k < length reached → has_column reached k ≡ false →
    length (set reached k true) - count_by (λ r. r) (set reached k true) < length reached - count_by (λ r. r) reached
fewer-outside reached k h e = grind (arith, count-reached, count_by-le-length, length-set)

-- if not all columns are taken, one is free
pub free_column : (xs : List (Option ℕ)) → count_by is_some xs < length xs → (j : ℕ) × (j < length xs)
    × IsColumnFree xs j
free_column [] h = absurd (omega arith)
free_column (None ∷ xs) h = (0, omega arith, refl)
free_column (Some i ∷ xs) h =
    let head = sum_by-cons (λ x. cond (is_some x) 1 0) (Some i) xs in
    let rest = free_column xs (omega arith) in
    (suc rest.0, omega (arith, rest.1), rest.2)

-- if `ys` passes `q` wherever `xs` passes `p`, at least as many of `ys` pass
pub count_at_most : {X Y : Type 0} (p : X → Bool) (q : Y → Bool) (d : X) (e : Y) (xs : List X) (ys : List Y) →
    length xs ≡ length ys → ((j : ℕ) → p (get_or xs j d) ≡ true → q (get_or ys j e) ≡ true)
    → count_by p xs ≤ count_by q ys
count_at_most p q d e [] [] same passes = omega arith
count_at_most p q d e (x ∷ xs) (y ∷ ys) same passes =
    let rest = count_at_most p q d e xs ys (omega arith) (λ j. passes (suc j)) in
    grind (arith, rest, passes 0, sum_by-cons (λ z. cond (p z) 1 0) x xs, sum_by-cons (λ z. cond (q z) 1 0) y ys)
count_at_most p q d e _ _ same passes = absurd (omega arith)

-- Sums of prices over one-to-one assignments.
use Rattle.std.proofs.Common.{◌≡◌, ◌≢◌, ℕ, zero, suc, ◌+◌, ◌<◌, List, [], ◌∷◌, length, get_or, set, map, All, AllPairs}
use Rattle.std.proofs.Common.{ℤ, eqb, false, pos, ◌+ℤ◌, ◌≤ℤ◌, refl, sym, arith}
use Rattle.{kd_assign.specs.Cheapest.FittingPricesBoundCosts, std.proofs.lemmas.Bool.Decides.Decides-eqb}
use Rattle.std.proofs.lemmas.List.{Folds.Any-from_list_any, Folds.list_any_at, Kept.AllPairs-cons}
use Rattle.std.proofs.lemmas.Map.{Made.IsDistinct-from_AllPairs, Steps.length-le_from_distinct_below}
use Rattle.std.specs.List.{list_any}
use Rattle.kd_assign.proofs.Prelude.{cases_eq, eq-eqb, eqb-true, ints, get_or-set_other, get_or-set_same}
use Rattle.kd_assign.proofs.Prelude.{get_or_past, length-set, cost_at, price_at, sum_of, IsOneToOne, assignment_cost}

-- price `j`, plus the sum of the prices with price `j` set to 0, is the sum of the prices
sum_of-set : (xs : List ℤ) (j : ℕ) → j < length xs → (price_at xs j +ℤ sum_of (set xs j (pos 0))) ≡ sum_of xs
sum_of-set [] j h = absurd (omega arith)
sum_of-set (x ∷ xs) zero h = omega (arith, ints)
sum_of-set (x ∷ xs) (suc j) h = let e = sum_of-set xs j (omega arith) in omega (arith, ints)

-- a sum of zeros is 0
sum_of-zeros : (xs : List ℤ) → ((j : ℕ) → price_at xs j ≡ pos 0) → sum_of xs ≡ pos 0
sum_of-zeros [] none = refl
sum_of-zeros (x ∷ xs) none = let rest = sum_of-zeros xs (λ j. none (suc j)) in omega (arith, ints, none 0)

-- the prices of the columns in `to` add up to the sum of `left`, if `left` has these prices, and zeros
-- elsewhere
sum_of-left : (col left : List ℤ) (to : List ℕ) → All (λ j. j < length left) to → AllPairs (λ j k. j ≢ k) to →
    ((i : ℕ) → i < length to → price_at left (get_or to i 0) ≡ price_at col (get_or to i 0)) →
    ((j : ℕ) → list_any (eqb j) to ≡ false → price_at left j ≡ pos 0) →
    sum_of (map (price_at col) to) ≡ sum_of left
sum_of-left col left [] below distinct same none = sym (sum_of-zeros left (λ j. none j refl))
sum_of-left col left (j ∷ to) below distinct same none =
    let within = below 0 0 (omega arith) in
    let rest = sum_of-left col (set left j (pos 0)) to
    (λ i d h. rw length-set (below (suc i) d (omega arith)))
    (λ i k d h g. distinct (suc i) (suc k) d (omega arith) (omega arith))
    (λ i h. grind (arith, get_or-set_other, distinct 0 (suc i) 0, same (suc i)))
    (λ k h. grind (arith, cases_eq, get_or-set_same, get_or-set_other, none k, eqb-true)) in
    omega (arith, ints, same 0 (omega arith), sum_of-set left j within)

-- an assignment of `n` rows to `n` columns misses no column
all_columns : (to : List ℕ) → IsOneToOne to → (j : ℕ) → j < length to → list_any (eqb j) to ≡ false → ⊥
all_columns to once j within misses =
    let other : All (λ k. j ≢ k) to = λ k d h e. grind (arith, list_any_at (eqb j) to k d h, eq-eqb) in
    let distinct = AllPairs-cons (λ i k. i ≢ k) j to other once.distinct in
    let few =
    length-le_from_distinct_below (j ∷ to) (length to) (IsDistinct-from_AllPairs Decides-eqb (j ∷ to) distinct)
    (λ q h. grind (arith, Any-from_list_any, eqb-true, once.in_range)) in
    omega arith

-- the prices of the columns that a one-to-one assignment gives to rows add up to the sum of all columns' prices
sum_of-columns : (col : List ℤ) (to : List ℕ) → length col ≡ length to → IsOneToOne to →
    sum_of (map (price_at col) to) ≡ sum_of col
sum_of-columns col to e once = grind (arith, sum_of-left, length, all_columns, get_or_past)

-- if `R` relates each row's price plus its column's price to the row's cost, it also relates the sums over all rows;
-- `R` has to be kept by addition
module _ (R : ℤ → ℤ → Type 0) (none : R (pos 0) (pos 0))
    (adds : (r s c t : ℤ) (k l : ℕ) → R (r +ℤ c) (pos k) → R (s +ℤ t) (pos l) → R ((r +ℤ s) +ℤ (c +ℤ t)) (pos (k + l)))
    (col : List ℤ) where
  abbrev HoldsOfRows : List (List ℕ) → List ℤ → List ℕ → Type 0
  HoldsOfRows cost row to =
      (i : ℕ) → i < length to
      → R (price_at row i +ℤ price_at col (get_or to i 0)) (pos (cost_at cost i (get_or to i 0)))

  sums-by_rows : (cost : List (List ℕ)) (row : List ℤ) (to : List ℕ) → length row ≡ length to
      → length cost ≡ length to →
      HoldsOfRows cost row to → R (sum_of row +ℤ sum_of (map (price_at col) to)) (pos (assignment_cost cost to))
  sums-by_rows [] [] [] e f each = none
  sums-by_rows (line ∷ cost) (r ∷ row) (j ∷ to) e f each =
      let rest = sums-by_rows cost row to (omega arith) (omega arith) (λ i h. each (suc i) (omega arith)) in
      adds r _ _ _ _ _ (each 0 (omega arith)) rest
  sums-by_rows _ _ _ e f each = absurd (omega arith)

  -- for a one-to-one assignment, the columns' prices in the sum are the prices of all columns
  pub sums-one_to_one : (cost : List (List ℕ)) (row : List ℤ) (to : List ℕ) → length row ≡ length to
      → length col ≡ length to →
      length cost ≡ length to → HoldsOfRows cost row to → IsOneToOne to →
      R (sum_of row +ℤ sum_of col) (pos (assignment_cost cost to))
  sums-one_to_one cost row to rows columns lines each once =
      rw (← sum_of-columns col to columns once) (sums-by_rows cost row to rows lines each)

-- here `R` is `≤`: if prices fit, each row's price and its column's price add up to at most the row's cost
pub fitting_prices_bound_costs : FittingPricesBoundCosts
fitting_prices_bound_costs cost row col to rows columns lines fits once =
    sums-one_to_one (λ x y. x ≤ℤ y) (omega (arith, ints))
    (λ r s c t k l h g. omega (arith, ints)) col cost row to rows columns
    lines (λ i h. fits i _ (omega arith) (omega (arith, once.in_range i 0 h))) once

-- Prices that fit bound the cost of each assignment of rows to columns from below.
pub mod Counts
unfoldable pub use Counts.*
use Rattle.std.specs.List as lists

-- the sum of prices
abbrev pub sum_of : List ℤ → ℤ
sum_of [] = pos 0
sum_of (price ∷ prices) = price +ℤ sum_of prices

fold_from : (start : ℤ) (xs : List ℤ) → fold (λ sum price. sum +ℤ price) start xs ≡ (start +ℤ sum_of xs)
fold_from start [] = omega (arith, ints)
fold_from start (x ∷ xs) = let e = fold_from (start +ℤ x) xs in omega (arith, ints)

pub fold_of_both : (rows columns : List ℤ)
    → fold (λ sum price. sum +ℤ price) (pos 0) (rows ++ columns) ≡ (sum_of rows +ℤ sum_of columns)
fold_of_both rows columns = grind (arith, common_steps, ints, fold-append, fold_from)

sum_of-parts : (xs : List ℤ) → (sum_of xs +ℤ pos (lists.sum_by down xs)) ≡ pos (lists.sum_by up xs)
sum_of-parts [] = refl
sum_of-parts (x ∷ xs) = omega (arith, ints, sum_of-parts xs, sum_by-cons up x xs, sum_by-cons down x xs)

module _ {B : Type 0} where
  -- the sum of the prices that are paired with columns
  abbrev pub prices_with : List (B × ℤ) → ℤ
  prices_with ws = sum_of (map (λ (w : B × ℤ). w.1) ws)

  -- Another order of the columns doesn't change the sum of their prices.
  pub prices_moved : (columns : List B) (prices : List ℤ) (beside : List (B × ℤ)) → length prices ≡ length columns
      → IsPermutation (zip columns prices) beside → prices_with beside ≡ sum_of prices
  prices_moved columns prices beside e order =
      let here = map (λ (w : B × ℤ). w.1) (zip columns prices) in
      let there = map (λ (w : B × ℤ). w.1) beside in
      let moved = IsPermutation-map (λ (w : B × ℤ). w.1) (zip columns prices) beside order in
      let ups = sum_by-IsPermutation up here there moved in
      let downs = sum_by-IsPermutation down here there moved in
      let same : sum_of there ≡ sum_of here = omega (arith, ints, sum_of-parts here, sum_of-parts there) in
      same ∙ ap sum_of (seconds-zip columns prices e)

-- Two lists whose items are related place by place.
module _ {A C : Type 0} (R : A → C → Type 0) where
  pub side_by_side-set : (xs : List A) (ys : List C) (i : ℕ) (x : A) (y : C) → AllZip R xs ys → R x y
      → AllZip R (set xs i x) (set ys i y)
  side_by_side-set [] [] i x y h r = tt
  side_by_side-set (a ∷ xs) (c ∷ ys) zero x y h r = (r, h.1)
  side_by_side-set (a ∷ xs) (c ∷ ys) (suc i) x y h r = (h.0, side_by_side-set xs ys i x y h.1 r)
  side_by_side-set xs ys i x y h r = absurd h

  side_by_side_at : (xs : List A) (ys : List C) (i : ℕ) (d : A) (e : C) → AllZip R xs ys → i < length xs
      → R (get_or xs i d) (get_or ys i e)
  side_by_side_at [] ys i d e h lt = absurd (omega arith)
  side_by_side_at (a ∷ xs) (c ∷ ys) zero d e h lt = h.0
  side_by_side_at (a ∷ xs) (c ∷ ys) (suc i) d e h lt = side_by_side_at xs ys i d e h.1 (omega arith)
  side_by_side_at (a ∷ xs) [] i d e h lt = absurd h

  -- an order of the second list in which its items are related, place by place, to those of the first one
  abbrev pub Reordered : List C → List A → Type 0
  Reordered ys xs = (zs : List C) × IsPermutation ys zs × AllZip R xs zs

  side_by_side-swap : (xs : List A) (zs : List C) (i j : ℕ) → i < length xs → j < length xs → AllZip R xs zs
      → AllZip R (lists.swap xs i j) (lists.swap zs i j)
  side_by_side-swap [] zs i j e d g = absurd (omega arith)
  side_by_side-swap (x ∷ xs) [] i j e d g = absurd g
  side_by_side-swap (x ∷ xs) (z ∷ zs) i j e d g = grind (arith, common_steps, side_by_side-set, side_by_side_at)

  -- If the first list is reordered, the second one can be reordered in the same way.
  pub reordered : (xs others : List A) (ys : List C) → IsPermutation xs others → AllZip R xs ys → Reordered ys others
  reordered xs others ys order h =
      IsPermutation-keeps xs (Reordered ys) (ys, IsPermutation-refl ys, h) (λ l i j hi hj kept.
      let same = AllZip-long R l kept.0 kept.2 in (
        lists.swap kept.0 i j,
        IsPermutation-trans ys kept.0 (lists.swap kept.0 i j) kept.1
            (IsPermutation-swap kept.0 (lists.swap kept.0 i j) i j (omega arith) (omega arith) refl),
        side_by_side-swap l kept.0 i j hi hj kept.2,
      ))
      others order

-- Rows and columns of a table of costs, with prices for both.
module _ {A B : Type 0} (cost : A → B → ℕ) where
  -- the cost of an assignment: each row at the column beside it
  abbrev pub pairing_cost : List A → List (B × ℤ) → ℕ
  pairing_cost rows ws = lists.sum_by (λ (pair : A × (B × ℤ)). cost pair.0 pair.1.0) (zip rows ws)

  -- The prices of a row and of a column add up to at most the cost where they meet.
  abbrev pub FitTogether : A → ℤ → B × ℤ → Type 0
  FitTogether row price w = (price +ℤ w.1) ≤ℤ pos (cost row w.0)

  module _ (a : A) where
    abbrev pub FitAll : List A → List ℤ → List (B × ℤ) → Type 0
    FitAll rows prices ws = (i : ℕ) → i < length rows → All (FitTogether (get_or rows i a) (get_or prices i (pos 0))) ws

    without_first : (row : A) (rows : List A) (price : ℤ) (prices : List ℤ) (w : B × ℤ) (ws : List (B × ℤ))
        → FitAll (row ∷ rows) (price ∷ prices) (w ∷ ws) → FitAll rows prices ws
    without_first row rows price prices w ws fit = λ i lt.
        All-tail (FitTogether (get_or rows i a) (get_or prices i (pos 0))) w ws (fit (suc i) (omega arith))

    pub fitting_prices : (rows : List A) (prices : List ℤ) (ws : List (B × ℤ)) → length rows ≡ length ws
        → length rows ≡ length prices
        → FitAll rows prices ws → (sum_of prices +ℤ prices_with ws) ≤ℤ pos (pairing_cost rows ws)
    fitting_prices [] [] [] e d fit = omega (arith, ints)
    fitting_prices (row ∷ rows) (price ∷ prices) (w ∷ ws) e d fit =
        let here = All-head (FitTogether row price) w ws (fit zero (omega arith)) in
        let rest =
        fitting_prices rows prices ws (omega arith) (omega arith) (without_first row rows price prices w ws fit) in
        omega (arith, ints, sum_by-cons (λ (pair : A × (B × ℤ)). cost pair.0 pair.1.0) (row, w) (zip rows ws))
    fitting_prices rows prices ws e d fit = absurd (omega arith)

    -- If prices that fit add up to at least the cost of an assignment, then for each row the prices of the row and of
    -- its column add up to the cost where they meet.
    pub tight_at : (rows : List A) (prices : List ℤ) (ws : List (B × ℤ)) (i : ℕ) (w : B × ℤ) → length rows ≡ length ws
        → length rows ≡ length prices
        → FitAll rows prices ws → pos (pairing_cost rows ws) ≤ℤ (sum_of prices +ℤ prices_with ws) → i < length rows
        → (get_or prices i (pos 0) +ℤ (get_or ws i w).1) ≡ pos (cost (get_or rows i a) (get_or ws i w).0)
    tight_at (row ∷ rows) (price ∷ prices) (v ∷ ws) zero w e d fit enough lt =
        let here = All-head (FitTogether row price) v ws (fit zero (omega arith)) in
        let rest =
        fitting_prices rows prices ws (omega arith) (omega arith) (without_first row rows price prices v ws fit) in
        omega (arith, ints, sum_by-cons (λ (pair : A × (B × ℤ)). cost pair.0 pair.1.0) (row, v) (zip rows ws))
    tight_at (row ∷ rows) (price ∷ prices) (v ∷ ws) (suc i) w e d fit enough lt =
        let here = All-head (FitTogether row price) v ws (fit zero (omega arith)) in
        tight_at rows prices ws i w (omega arith) (omega arith) (without_first row rows price prices v ws fit)
        (omega (arith, ints, sum_by-cons (λ (pair : A × (B × ℤ)). cost pair.0 pair.1.0) (row, v) (zip rows ws)))
        (omega arith)
    tight_at rows prices ws i w e d fit enough lt = absurd (omega arith)

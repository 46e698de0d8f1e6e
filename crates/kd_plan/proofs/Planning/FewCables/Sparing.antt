-- The settings of an assignment in which spare cables come last leave spare cables free.
pub mod Moving
unfoldable pub use Moving.*
pub use Rattle.kd_assign.specs.{Assignment.{IsOneToOne, assignment_cost}, Prices.cost_at}
pub use Rattle.kd_card.specs.{Loose.loose_lines, Proving.priced_count}
pub use Rattle.kd_plan.specs.FewCables.{FewCablesServe, HasPairsUpTo, NamesNoneAbove, UsesNoneAbove}
pub use Rattle.kd_plan.specs.Spares.{IsSpareCable, SparesComeLast, SparesStayFree, comes_before, is_spare, is_spare_at}
pub use Rattle.kd_state.{proofs.Slots.numbered_other, proofs.Carrying.{pulled, was_put}, specs.Machine.model_of}
pub use Rattle.kd_state.specs.{Costs.costs_by, SameParts.numbered_item, SheetDay.{Day, IsLegalDay, day_model}}
pub use Rattle.kd_state.specs.Setting.{Leads}
pub use Rattle.std.proofs.{Common.{inl, inr}, lemmas.Option.{slice_get_past, unwrap_or-slice_get}}
pub use Rattle.std.proofs.lemmas.{Bool.{cases_eq, cases_lt, Decides.Decides-eqb}, List.{length-append, length-set}}
pub use Rattle.std.proofs.lemmas.List.{Elements.{All-append, All-cons, All-nil, filter_passes}, Folds.Any-from_list_any}
pub use Rattle.std.proofs.lemmas.List.{get_or-set_other, length-replicate, Kept.AllPairs-filter, Sorted.All-permutation}
pub use Rattle.std.proofs.lemmas.Map.{Keys.IsDistinct-IsPermutation, Steps.length-le_from_distinct_below}
pub use Rattle.std.proofs.lemmas.Map.Made.{AllPairs-from_IsDistinct, IsDistinct-from_AllPairs}
pub use Rattle.std.specs.{List.SwappedAt, Prelude.{IfSome, IsTrue, is_none, slice_get, take}}

-- ---- a spare cable exchanges its pair for another cable's column, which has no pair

-- An assignment whose columns are put in another order stays one-to-one.
pub one_to_one_still : (xs ys : List ℕ) → IsPermutation xs ys → length ys ≡ length xs → IsOneToOne xs → IsOneToOne ys
one_to_one_still xs ys order size h = record {
  in_range = grind (arith, All-permutation (λ j. j < length xs) xs ys order h.in_range);
  distinct =
      let apart = IsDistinct-from_AllPairs Decides-eqb xs h.distinct in
      AllPairs-from_IsDistinct Decides-eqb ys (IsDistinct-IsPermutation nat_eq (λ x y. grind (arith, nat_tests)) xs ys
      order apart);
}

-- ---- it costs no more
-- the cost of an assignment in which one row gets another column
cost_set : (costs : List (List ℕ)) (to : List ℕ) (i v : ℕ) → i < length to → length costs ≡ length to
    → assignment_cost costs (set to i v) + cost_at costs i (get_or to i 0)
    ≡ assignment_cost costs to + cost_at costs i v
cost_set (line ∷ costs) (j ∷ to) zero v lt size = omega arith
cost_set (line ∷ costs) (j ∷ to) (suc i) v lt size = omega (arith, cost_set costs to i v (omega arith) (omega arith))
cost_set _ _ i v lt size = absurd (omega arith)

sums_within : {X : Type 0} (f g h k : X → ℕ) → ((x : X) → f x + g x ≤ h x + k x) → (xs : List X)
    → sum_by f xs + sum_by g xs ≤ sum_by h xs + sum_by k xs
sums_within f g h k e [] = omega arith
sums_within f g h k e (x ∷ xs) = simp sum_by-cons (omega (arith, e x, sums_within f g h k e xs))

cond-exchanged : (p q : Bool) → cond {A = ℕ} (exactly_one false false) 1 0 + cond (exactly_one p q) 1 0
    ≤ cond (exactly_one false q) 1 0 + cond (exactly_one p false) 1 0
cond-exchanged p q = grind arith

-- Two cables cost no more after the exchange: `cable` becomes the pair, and `spare` the column without a pair.
cable_cost-exchanged : (spare cable : Cable) (column : ColumnPair) → is_spare spare ≡ true
    → cable_cost spare None + cable_cost cable column ≤ cable_cost spare column + cable_cost cable None
cable_cost-exchanged (None, None) cable column h = grind (arith, common_steps, sums_within, cond-exchanged)
cable_cost-exchanged _ cable column h = absurd (cc)

abbrev cable_of : List Cable → ℕ → Cable
cable_of cables place = get_or cables place (None, None)

cost_is : (cables : List Cable) (pairs : List (ℕ × ℕ)) (i j : ℕ) → i < length cables → j < 13
    → cost_at (costs_by cable_cost cables (columns_of pairs)) i j ≡ cable_cost (cable_of cables i) (column_at pairs j)
cost_is cables pairs i j lt within = grind (arith, common_steps, length-append, length-replicate, get_or-map)

pub costs_no_more : (cables : List Cable) (pairs : List (ℕ × ℕ)) (xs ys : List ℕ) (spare place : ℕ)
    → length cables ≡ 13 → length xs ≡ 13 → IsOneToOne xs → SwappedAt xs ys spare place → spare < 13 → place < 13
    → is_spare_at cables spare ≡ true → get_or xs spare 0 < length pairs → length pairs ≤ get_or xs place 0
    → assignment_cost (costs_by cable_cost cables (columns_of pairs)) ys
    ≤ assignment_cost (costs_by cable_cost cables (columns_of pairs)) xs
costs_no_more cables pairs xs ys spare place many size once swapped a b empty taken none =
    let costs = costs_by cable_cost cables (columns_of pairs) in
    let u = get_or xs spare 0 in
    let v = get_or xs place 0 in
    let rows : length costs ≡ length xs =
    length-map cables (λ cable. map (cable_cost cable) (columns_of pairs)) ∙ many ∙ sym size in
    let stays : get_or (set xs spare v) place 0 ≡ v = get_or-set_other xs spare place v 0
    (λ e. omega (arith, ap (λ k. get_or xs k 0) e)) in
    let here : spare < length xs = rw size a in
    let there : place < length xs = rw size b in
    let first = cost_set costs xs spare v here rows in
    let second = cost_set costs (set xs spare v) place u (rw length-set there) (rw length-set rows) in
    let low : u < 13 = rw size at (once.in_range spare 0 here) in
    let high : v < 13 = rw size at (once.in_range place 0 there) in
    let nothing : column_at pairs v ≡ None = columns_are_the_pairs pairs v ∙ slice_get_past pairs v none in
    let gain = cable_cost-exchanged (cable_of cables spare) (cable_of cables place) (column_at pairs u) empty in
    let one = cost_is cables pairs spare u (rw many a) low in
    let two = cost_is cables pairs spare v (rw many a) high ∙ ap
    (λ column. cable_cost (cable_of cables spare) column) nothing in
    let three = cost_is cables pairs place u (rw many b) low in
    let four = cost_is cables pairs place v (rw many b) high ∙ ap
    (λ column. cable_cost (cable_of cables place) column) nothing in
    rw (swapped.3 0) (omega (arith, ap (λ j. cost_at costs place j) stays))

-- ---- the spare cables from `spare` on have columns without pairs, also the one that gave its pair away
pub still_free : (cables : List Cable) (xs ys : List ℕ) (pairs spare place : ℕ) → SwappedAt xs ys spare place
    → comes_before cables place spare ≡ true → pairs ≤ get_or xs place 0
    → ((k : ℕ) → suc spare ≤ k → k < 13 → is_spare_at cables k ≡ true → pairs ≤ get_or xs k 0)
    → (k : ℕ) → spare ≤ k → k < 13 → is_spare_at cables k ≡ true → pairs ≤ get_or ys k 0
still_free cables xs ys pairs spare place swapped before none free k low high empty =
    grind (arith, common_steps, cases_eq)

-- ---- the spare cables that become pairs are no more than the pairs need

-- Let each cable in use, and each of the first `first` cables, become a pair. Then the number of cables in use, plus
-- the number of spare ones among the first `first`, is at most the number of cables that become pairs.
pairs-counted : (cables : List Cable) (to : List ℕ) (pairs first : ℕ) → length cables ≡ length to
    → ((k : ℕ) → k < length to → comes_before cables k first ≡ true → get_or to k 0 < pairs)
    → count_by (λ cable. not (is_spare cable)) cables + count_by is_spare (take first cables)
    ≤ count_by (λ j. nat_lt j pairs) to
pairs-counted [] to pairs first size taken = grind (arith, common_steps)
pairs-counted (cable ∷ cables) [] pairs first size taken = absurd (omega arith)
pairs-counted (cable ∷ cables) (j ∷ to) pairs zero size taken =
    let rest = pairs-counted cables to pairs zero (omega arith)
    (λ k lt e. taken (suc k) (omega arith) (grind (arith, nat_tests))) in
    simp sum_by-cons (grind (arith, nat_tests, taken zero (omega arith)))
pairs-counted (cable ∷ cables) (j ∷ to) pairs (suc first) size taken =
    let rest = pairs-counted cables to pairs first (omega arith)
    (λ k lt e. taken (suc k) (omega arith) (grind (arith, nat_tests))) in
    simp sum_by-cons (grind (arith, nat_tests, taken zero (omega arith)))

-- At most as many cables become pairs as there are pairs.
few_pairs : (to : List ℕ) (pairs : ℕ) → IsOneToOne to → count_by (λ j. nat_lt j pairs) to ≤ pairs
few_pairs to pairs h =
    let below : ℕ → Bool = λ j. nat_lt j pairs in
    let apart = IsDistinct-from_AllPairs Decides-eqb (filter below to)
    (AllPairs-filter (λ j k. j ≢ k) below to h.distinct) in
    let few = length-le_from_distinct_below (filter below to) pairs apart
    (λ q there. grind (arith, Any-from_list_any, eqb-true, ltb-true, filter_passes below to)) in
    omega (arith, length-filter below to)

few_spares : (cables : List Cable) (pairs : List (ℕ × ℕ)) (to : List ℕ) → length cables ≡ 13 → length to ≡ 13
    → IsOneToOne to → SparesComeLast cables (length pairs) to → (number place : ℕ) → number ≡ suc place → place < 13
    → get_or to place 0 < length pairs → is_spare_at cables place ≡ true
    → count_by is_spare (take number cables) ≤ length pairs - count_by (λ cable. not (is_spare cable)) cables
few_spares cables pairs to many size once last number place next lt taken spare =
    let all = pairs-counted cables to (length pairs) number (omega arith) (λ k lt' e.
    grind (arith, nat_tests, cases_eq, last place k lt spare taken)) in
    omega (arith, all, few_pairs to (length pairs) once)

-- ---- the settings
put_lines : (P : Setting → Type 0) (number : ℕ) (cable : Cable) (column : ColumnPair)
    → ((pair : ℕ × ℕ) → column ≡ Some pair → (letter : ℕ) → P (Put number letter))
    → All P (cable_moves In number (cable, column))
put_lines P number cable None h = All-nil P
put_lines P number cable (Some pair) h =
    All-map P (λ letter. Put number letter)
    (letters_outside (column_letters (pair_in_order (Some pair))) (cable_letters cable))
    (λ k d lt. h pair refl _)

-- If `P` holds of each cable's settings in one direction, it holds of all settings in this direction.
all_moves : (P : Setting → Type 0) (direction : CableMove) (pairs : List (ℕ × ℕ)) (cables : List Cable) (to : List ℕ)
    (number : ℕ) → ((k n : ℕ) (cable : Cable) → n ≡ number + k → k < length to
    → All P (cable_moves direction n (cable, column_at pairs (get_or to k 0))))
    → All P (lines_from (cable_moves direction) number (cables_with_columns cables pairs to))
all_moves P direction pairs (cable ∷ cables) (j ∷ to) number h =
    All-append P _ _ (h zero number cable (omega arith) (omega arith))
    (all_moves P direction pairs cables to (number + 1) (λ k n x e lt. h (suc k) n x (omega arith) (omega arith)))
all_moves P direction pairs _ _ number h = All-nil P

-- If `P` holds of each setting that isn't priced, it holds of all settings in a list without priced ones.
All-unpriced : (P : Setting → Type 0) → ((x : Setting) → is_priced_setting x ≡ false → P x) → (xs : List Setting)
    → priced_count xs ≡ 0 → All P xs
All-unpriced P h [] none = All-nil P
All-unpriced P h (x ∷ xs) none =
    let sum = sum_by-cons (λ y. cond {A = ℕ} (is_priced_setting y) 1 0) x xs in
    All-cons P x xs (h x (grind (arith, nat_tests))) (All-unpriced P h xs (omega arith))

-- what each setting satisfies if the settings leave spare cables free
abbrev pub LeavesSpares : RotorParts → RotorDay → Setting → Type 0
LeavesSpares m s (Put cable letter) =
    IsSpareCable m.cables cable
    → count_by is_spare (take cable m.cables) ≤ length s.pairs - count_by (λ cable. not (is_spare cable)) m.cables
LeavesSpares m s _ = Unit {0}

spare_found : (found : Option Cable) → IfSome found (λ cable. IsTrue (is_spare cable))
    → is_spare (unwrap_or found (None, None)) ≡ true
spare_found found spare = grind arith

pub spare_at : (m : RotorParts) (number place : ℕ) → number ≡ suc place → IsSpareCable m.cables number
    → is_spare_at m.cables place ≡ true
spare_at m number place e spare =
    ap is_spare (sym (unwrap_or-slice_get m.cables place (None, None)))
    ∙ spare_found (slice_get m.cables place) (rw e at spare)

pub SparesStayFree-planned : (m : RotorParts) (s : RotorDay) (to : List ℕ) → IsMachine (Rotor m)
    → IsLegalDay (Rotor s) → m.model ≡ s.model → length to ≡ 13 → IsOneToOne to
    → SparesComeLast m.cables (length s.pairs) to
    → SparesStayFree (Rotor m) (Rotor s) (planned_lines (Rotor m) (Rotor s) to)
SparesStayFree-planned m s to machine legal same size once last cable letter (k, lt, e) =
    let loose = All-unpriced (LeavesSpares m s) (λ x e. grind arith) (loose_lines (Rotor m) (Rotor s))
    (all_counted (Rotor m) (Rotor s) machine legal same).priced in
    let pulls = all_moves (LeavesSpares m s) Out s.pairs m.cables to 1 (λ k n cable e lt.
    All-map (LeavesSpares m s) (λ letter. Pull n letter) _ (λ i d lt'. tt)) in
    let puts = all_moves (LeavesSpares m s) In s.pairs m.cables to 1 (λ k n cable e lt.
    put_lines (LeavesSpares m s) n cable (column_at s.pairs (get_or to k 0)) (λ pair is letter spare.
    few_spares m.cables s.pairs to machine.legal.cables.count size once last n k (omega arith) (omega arith)
    (slice_get_within s.pairs _ pair (sym (columns_are_the_pairs s.pairs _) ∙ is))
    (spare_at m n k (omega arith) spare))) in
    let all = All-append (LeavesSpares m s) _ _ (All-append (LeavesSpares m s) _ _ loose pulls) puts in
    subst (LeavesSpares m s) e (all k (Put cable letter) lt)

-- Two sorted lists are equal if each test counts as many elements in one as in the other. So two lists are
-- permutations of each other exactly if sorting makes them equal.
use Rattle.kd_state.proofs.Prelude.{false_from_ne_true, IsPermutation-sym, IsPermutation-trans, sorted_far}
use Rattle.kd_state.proofs.Prelude.{sum_by-IsPermutation, sum_by-cons, sum_by-le, Decides, IsStrictWeakOrder}
use Rattle.kd_state.proofs.Prelude.{pointwise_decides, count_by, Bool, List, [], ap, arith, false, length, refl, subst}
use Rattle.kd_state.proofs.Prelude.{suc, sym, true, ℕ, ◌+◌, ◌<◌, ◌↔◌, ◌∙◌, ◌∷◌, ◌≡◌, ◌≤◌, IsPermutation, pointwise}
use Rattle.kd_state.proofs.Prelude.{Decides-and, Decides-like, is_lt, on_total, ranks_by, then_total, ◌&&◌}
use Rattle.std.specs.{Cmp.IsTotalOrder, Ordering.ordering_then, declared.cmp.Ordering.Ordering}
use Rattle.std.specs.Prelude.{if◌then◌else◌, slice_index_or, IsSortedBy}

-- 1 for true, 0 for false
abbrev pub one_if : Bool → ℕ
one_if holds = if holds then 1 else 0

-- one more element adds 1 to the count if it passes the test, and 0 otherwise
pub count_by-cons : {X : Type 0} (p : X → Bool) (x : X) (xs : List X)
    → count_by p (x ∷ xs) ≡ one_if (p x) + count_by p xs
count_by-cons p x xs = sum_by-cons (λ y. one_if (p y)) x xs

-- if no element passes the test, the count is 0
count_by-none : {X : Type 0} (p : X → Bool) (xs : List X)
    → ((k : ℕ) (d : X) → k < length xs → p (slice_index_or xs k d) ≡ false) → count_by p xs ≡ 0
count_by-none p xs none =
    omega (
      arith,
      sum_by-le (λ x. one_if (p x)) 0 xs
          (λ k d below. let zero : one_if (p (slice_index_or xs k d)) ≡ 0 = ap one_if (none k d below) in omega arith),
    )

module _ {X : Type 0} (lt : X → X → Bool) (order : IsStrictWeakOrder lt)
    (same : (x y : X) → lt x y ≡ false → lt y x ≡ false → x ≡ y) where
  -- no element is less than an element before it
  abbrev IsRising : List X → Type 0
  IsRising xs = (i j : ℕ) (d : X) → i ≤ j → j < length xs → lt (slice_index_or xs j d) (slice_index_or xs i d) ≡ false

  -- if each test counts as many elements in a list as in a sorted list, the list's first element isn't less
  -- than the sorted list's first element
  not_before : (x : X) (xs : List X) (y : X) (ys : List X) → IsRising (y ∷ ys)
      → ((p : X → Bool) → count_by p (x ∷ xs) ≡ count_by p (y ∷ ys)) → lt x y ≡ false
  not_before x xs y ys rising counts = false_from_ne_true (lt x y) (λ is.
      let p : X → Bool = λ z. lt z y in
      let none : count_by p (y ∷ ys) ≡ 0 = count_by-none p (y ∷ ys) (λ k d below. rising 0 k d (omega arith) below) in
      let here : one_if (lt x y) ≡ 1 = ap one_if is in
      omega (arith, count_by-cons p x xs, counts p, none, here))

  pub sorted_alike : (xs ys : List X) → IsRising xs → IsRising ys → ((p : X → Bool) → count_by p xs ≡ count_by p ys)
      → xs ≡ ys
  sorted_alike [] [] up rising counts = refl
  sorted_alike [] (y ∷ ys) up rising counts =
      absurd (omega (arith, counts (λ _. true), count_by-cons (λ (_ : X). true) y ys))
  sorted_alike (x ∷ xs) [] up rising counts =
      absurd (omega (arith, counts (λ _. true), count_by-cons (λ (_ : X). true) x xs))
  sorted_alike (x ∷ xs) (y ∷ ys) up rising counts =
      let first : x ≡ y =
      same x y (not_before x xs y ys rising counts) (not_before y ys x xs up (λ p. sym (counts p))) in
      let rest : xs ≡ ys = sorted_alike xs ys (λ i j d le below. up (suc i) (suc j) d (omega arith) (omega arith))
      (λ i j d le below. rising (suc i) (suc j) d (omega arith) (omega arith))
      (λ p. omega (arith, counts p, count_by-cons p x xs, count_by-cons p y ys, ap (λ z. one_if (p z)) first)) in
      cc

  -- lists are permutations of each other exactly if sorting makes them equal
  pub sorted_tell : (eq : X → X → Bool) → ((x y : X) → Decides (eq x y) (x ≡ y))
      → (xs ys up rising : List X) (tested : Bool) → IsPermutation xs up → IsPermutation ys rising
      → IsSortedBy lt up → IsSortedBy lt rising → tested ≡ pointwise eq up rising
      → (tested ≡ true) ↔ IsPermutation xs ys
  sorted_tell eq decides xs ys up rising tested moved other sorted rises is =
      let decided = pointwise_decides decides up rising in (
        λ yes. IsPermutation-trans xs up ys moved
            (subst (λ all. IsPermutation all ys) (sym (decided.0 (sym is ∙ yes))) (IsPermutation-sym ys rising other)),
        λ same.
            let across : IsPermutation up rising =
            IsPermutation-trans up xs rising (IsPermutation-sym xs up moved)
            (IsPermutation-trans xs ys rising same other) in
            is ∙ decided.1 (sorted_alike up rising (sorted_far lt order up sorted) (sorted_far lt order rising rises)
            (λ p. sym (sum_by-IsPermutation (λ y. one_if (p y)) up rising across))),
      )

-- The same for pairs that are ordered by their first parts, then by their second parts. Readings are such pairs, and so
-- are cables.
module _ {X : Type 0} {order : X → X → Ordering} (total : IsTotalOrder order) (eq : X → X → Bool)
    (same : (x y : X) → is_lt (order x y) ≡ false → is_lt (order y x) ≡ false → x ≡ y)
    (decides : (x y : X) → Decides (eq x y) (x ≡ y)) where
  abbrev before : X × X → X × X → Bool
  before one other = is_lt (ordering_then (order one.0 other.0) (order one.1 other.1))

  neither_before : (one other : X × X) → before one other ≡ false → before other one ≡ false → one ≡ other
  neither_before one other after earlier = grind (arith, same)

  abbrev alike : X × X → X × X → Bool
  alike one other = eq one.0 other.0 && eq one.1 other.1

  pub pairs_tell : (xs ys up rising : List (X × X)) (tested : Bool) → IsPermutation xs up → IsPermutation ys rising
      → IsSortedBy before up → IsSortedBy before rising → tested ≡ pointwise alike up rising
      → (tested ≡ true) ↔ IsPermutation xs ys
  pairs_tell =
      sorted_tell before (ranks_by (then_total (on_total (λ (pair : X × X). pair.0) total)
      (on_total (λ (pair : X × X). pair.1) total)) (λ (pair : X × X). pair))
      neither_before alike (λ one other. grind (arith, Decides-like, Decides-and, decides))

-- Keys are taken out of kinds, one by one. If all can be taken, the kinds' prices are the prices of the keys.
use Rattle.{kd_card.specs.Kinds.{key_cmp, total_count}, kd_prices.specs.Grouping.{HasNoneLeft, TakesOne}}
use Rattle.kd_prices.proofs.Prelude.{All-nil, ArePricesInRange, IsPermutation-sym, length-replicate, length_permutation}
use Rattle.kd_prices.proofs.Prelude.{All-permutation, All-replicate, IsPermutation, [], length-append, take-append-drop}
use Rattle.kd_prices.proofs.Prelude.{All-append, MatchOption, ap, append_assoc, common_steps, unsigned_abs}
use Rattle.kd_prices.proofs.Prelude.{AreKindsOf, KindFormat, append-nil, expansion, get_or-zip, length-zip, replicate}
use Rattle.kd_prices.proofs.Prelude.{All-head, All-tail, AreKinds, IsGroup, KindOf, Option, get_or, length}
use Rattle.kd_prices.proofs.Prelude.{Bool, List, None, Some, arith, drop, refl, subst, take, true, zero, ℕ, ◌++◌}
use Rattle.std.proofs.lemmas.List.{Folds.{fold-map}, Sums.{sum_by-append, sum_by-cons}}
use Rattle.std.proofs.lemmas.List.Sorted.{IsPermutation-append_right, IsPermutation-middle, sum_by-IsPermutation}
use Rattle.std.proofs.lemmas.List.Sorted.{IsPermutation-refl, IsPermutation-trans}
use Rattle.std.proofs.lemmas.{List.{nil_from_length, Elements.All-map}, Slice.Zip.{firsts-zip, seconds-zip}}
use Rattle.std.proofs.lemmas.{Map.Text.is_eq-slice_cmp, Slice.Eq.bytes_eq-Decides}
use Rattle.std.specs.{List.sum_by, Ordering.is_eq, Prelude.if◌then◌else◌}
use Rattle.kd_prices.proofs.Prelude.{All, map, pos, set, suc, sym, zip, ℤ, ◌+◌, ◌-◌, ◌<◌, ◌↔◌, ◌∙◌, ◌∷◌, ◌≡◌, ◌≢◌, ◌≤◌}
use Rattle.std.proofs.{Math.Seq.drop-cons, lemmas.List.{take_all, take_more_set}}

-- ---- equal keys

-- Keys are equal exactly if they compare as equal.
pub eq_decides : {K X : Type 0} (format : KindFormat K X) → ((x y : X) → format.order x ≡ format.order y → x ≡ y)
    → (x y : X) → (is_eq (key_cmp format x y) ≡ true) ↔ (x ≡ y)
eq_decides format told x y =
    let tested = is_eq-slice_cmp (format.order x) (format.order y) in
    let decides = bytes_eq-Decides (format.order x) (format.order y) in
    (λ equal. told x y (decides.0 (sym tested ∙ equal)), λ same. tested ∙ decides.1 (ap format.order same))

-- ---- one key

abbrev once : Bool → ℕ
once holds = if holds then 1 else 0

module _ {X : Type 0} (key : X) (kind : KindOf X) (kinds : List (KindOf X)) where
  pub takes_first : kind.key ≡ key → 0 < kind.count
      → TakesOne (kind ∷ kinds) key kind.price (record kind { count = kind.count - 1 } ∷ kinds)
  takes_first same some =
      let pair : X × ℤ = (kind.key, kind.price) in
      let number : suc (kind.count - 1) ≡ kind.count = omega arith in
      let rest = replicate (kind.count - 1) pair ++ expansion kinds in
      rw (← same) (subst (λ n. IsPermutation (replicate n pair ++ expansion kinds) (pair ∷ rest)) number
      (IsPermutation-refl (pair ∷ rest)))

  none_in_first : (count : ℕ) → ¬ ((kind.key ≡ key) × (0 < count))
      → All (λ (z : X × ℤ). z.0 ≢ key) (replicate count (kind.key, kind.price))
  none_in_first zero other = All-nil (λ (z : X × ℤ). z.0 ≢ key)
  none_in_first (suc n) other =
      let apart : kind.key ≢ key = λ same. other (same, omega arith) in
      All-replicate (λ (z : X × ℤ). z.0 ≢ key) (suc n) (kind.key, kind.price) apart

  pub takes_later : (price : Option ℤ) (left : List (KindOf X)) → ¬ ((kind.key ≡ key) × (0 < kind.count))
      → MatchOption price (HasNoneLeft kinds key) (λ price. TakesOne kinds key price left)
      → MatchOption price (HasNoneLeft (kind ∷ kinds) key)
      (λ price. TakesOne (kind ∷ kinds) key price (kind ∷ left))
  takes_later None left other none = All-append (λ (z : X × ℤ). z.0 ≢ key) _ _ (none_in_first kind.count other) none
  takes_later (Some price) left other takes =
      let run = replicate kind.count (kind.key, kind.price) in
      IsPermutation-trans (run ++ expansion kinds) _ _ (IsPermutation-append_right run _ _ takes)
      (IsPermutation-middle run (key, price) (expansion left))

-- ---- the keys in turn

sum_by-zip : {X : Type 0} (f : X → ℕ) (keys : List X) (prices : List ℤ) → length prices ≡ length keys
    → sum_by (λ (z : X × ℤ). f z.0) (zip keys prices) ≡ sum_by f keys
sum_by-zip {X} f keys prices same =
    sym (fold-map _ (λ (z : X × ℤ). z.0) 0 (zip keys prices)) ∙ ap (sum_by f) (firsts-zip keys prices same)

zip_set : {X : Type 0} (keys : List X) (prices : List ℤ) (place : ℕ) (key : X) (price : ℤ) → place < length keys
    → get_or keys place key ≡ key → zip keys (set prices place price) ≡ set (zip keys prices) place (key, price)
zip_set (x ∷ keys) (p ∷ prices) (suc place) key price inside is =
    grind (arith, common_steps, zip_set keys prices place key price)
zip_set keys prices place key price inside is = grind (arith, common_steps)

none_counted : {X : Type 0} (key : X) (is_key : X → Bool) → ((x : X) → is_key x ≡ true → x ≡ key)
    → (pairs : List (X × ℤ)) → All (λ z. z.0 ≢ key) pairs → sum_by (λ z. once (is_key z.0)) pairs ≡ 0
none_counted key is_key decides [] none = refl
none_counted {X} key is_key decides (z ∷ pairs) none =
    let Other : X × ℤ → Type 0 = λ z. z.0 ≢ key in
    let rest = none_counted key is_key decides pairs (All-tail Other z pairs none) in
    let apart = All-head Other z pairs none in
    grind (arith, common_steps, apart, decides z.0, rest)

-- The keys before `place` are taken out of `kinds`, with their prices; `left` are the kinds that remain.
abbrev pub AreTaken : {X : Type 0} → List (KindOf X) → List X → List ℤ → ℕ → List (KindOf X) → Type 0
AreTaken kinds keys prices place left = IsPermutation (expansion kinds) (take place (zip keys prices) ++ expansion left)

module _ {K X : Type 0} (format : KindFormat K X) (kinds : List K) (left : List (KindOf X)) (keys : List X)
    (prices : List ℤ) (place : ℕ) (key : X)
    (inside : place < length keys) (is : get_or keys place key ≡ key) (many : length prices ≡ length keys)
    (taken : AreTaken (map format.kind kinds) keys prices place left) where
  pub one_more_taken : (price : ℤ) (new : List (KindOf X)) → TakesOne left key price new
      → AreTaken (map format.kind kinds) keys (set prices place price) (place + 1) new
  one_more_taken price new one =
      let pairs = zip keys prices in
      let within : place < length pairs = omega (arith, length-zip keys prices) in
      rw (zip_set keys prices place key price inside is, take_more_set pairs place (key, price) within, append_assoc)
      (IsPermutation-trans (expansion (map format.kind kinds)) _ _ taken
      (IsPermutation-append_right (take place pairs) _ _ one))

  -- If no kind with the key at `place` is left, the kinds aren't those of the keys.
  pub not_kinds_of : (is_key : X → Bool) → ((x : X) → (is_key x ≡ true) ↔ (x ≡ key)) → HasNoneLeft left key
      → (others : List ℤ) → ¬ (AreKindsOf format keys others kinds)
  not_kinds_of is_key decides left_none others are =
      let f : X × ℤ → ℕ = λ z. once (is_key z.0) in
      let none = none_counted key is_key (λ x. (decides x).0) (expansion left) left_none in
      let equal = (decides key).1 refl in
      let pairs = zip keys prices in
      let d : X × ℤ = (key, pos 0) in
      let within : place < length pairs = omega (arith, length-zip keys prices) in
      let here : f (get_or pairs place d) ≡ 1 =
      ap f (get_or-zip keys prices place d inside (omega arith)) ∙ ap (λ x. once (is_key x)) is ∙ ap once equal in
      let split = ap (sum_by f) (sym (take-append-drop place pairs))
      ∙ sum_by-append f (take place pairs) (drop place pairs) in
      let next = ap (sum_by f) (drop-cons pairs place d within)
      ∙ sum_by-cons f (get_or pairs place d) (drop (suc place) pairs) in
      let all = expansion (map format.kind kinds) in
      let before = sym (sum_by-IsPermutation f all _ taken)
      ∙ sum_by-append f (take place pairs) (expansion left) in
      let count = λ (prices : List ℤ) (many : length prices ≡ length keys).
      sum_by-zip (λ x. once (is_key x)) keys prices many in
      let whole = sum_by-IsPermutation f (zip keys others) all are.expand
      ∙ count others are.number ∙ sym (count prices many) in
      omega (arith, none, here, split, next, before, whole)

-- ---- the prices of kinds

abbrev IsNear : {X : Type 0} → X × ℤ → Type 0
IsNear z = unsigned_abs z.1 ≤ 9999

module _ {K X : Type 0} (format : KindFormat K X) where
  pub size : (kinds : List K) → length (expansion (map format.kind kinds)) ≡ total_count format kinds
  size [] = refl
  size (kind ∷ kinds) = grind (arith, common_steps, length-append, length-replicate, size kinds)

  all_near : (last : Option K) (kinds : List K) → AreKinds format last kinds
      → All (λ (z : X × ℤ). IsNear z) (expansion (map format.kind kinds))
  all_near last [] are = All-nil (λ (z : X × ℤ). IsNear z)
  all_near last (kind ∷ kinds) are =
      grind (arith, common_steps, All-append, All-replicate, are.0.in_range, all_near (Some kind) kinds are.2)

  pub all_taken : (kinds : List K) (keys : List X) (prices : List ℤ) (place : ℕ) (left : List (KindOf X))
      → IsGroup format (length keys) kinds → length prices ≡ length keys → length keys ≤ place
      → AreTaken (map format.kind kinds) keys prices place left
      → AreKindsOf format keys prices kinds × ArePricesInRange prices
  all_taken kinds keys prices place left group number most taken =
      let pairs = zip keys prices in
      let all = expansion (map format.kind kinds) in
      let whole = take_all place pairs (omega (arith, length-zip keys prices)) in
      let moved = rw whole at taken in
      let lengths = length_permutation all (pairs ++ expansion left) moved in
      let same = length-append pairs (expansion left) in
      let none = nil_from_length (expansion left) (omega (arith, size kinds, length-zip keys prices, group.count)) in
      let kept = rw (none, append-nil) at moved in (
        record { number = number; expand = IsPermutation-sym all pairs kept },
        subst ArePricesInRange (seconds-zip keys prices number) (All-map (λ price. unsigned_abs price ≤ 9999) (λ z. z.1)
            pairs (All-permutation (λ (z : X × ℤ). IsNear z) all pairs kept (all_near None kinds group.in_order))),
      )

-- A text that passes a test of `WiringText` has the property tested, and each published table passes its test.
use Rattle.std.proofs.Common.{◌≡◌, ◌≢◌, ℕ, ◌<◌, ◌≤◌, ◌==◌, nat_eq, true, false, not, ◌&&◌, ◌⊎◌, inl, inr, List, ◌∷◌}
use Rattle.std.proofs.Common.{length, slice_index, get_or, eqb, All, refl, sym, subst, ◌∙◌, arith}
use Rattle.std.specs.List.{position_or_len, IsDistinct, Any, list_any}
use Rattle.std.proofs.lemmas.Bool.{and_parts, not-true, ltb-true, eqb-true, eqb-false, ne_eqb, cases_lt, cases_order}
use Rattle.kd_tables.specs.{Rings.IsRing, Tables.letters_of, Tables.reflector_of, Tables.wiring_of}
use Rattle.kd_tables.specs.declared.{reflector.Reflector.Reflector, wheel.Wheel.TheVariants.I, wheel.Wheel.Wheel}
use Rattle.std.proofs.lemmas.{Cmp.nat_eq_equiv, List.Folds.Any-from_list_any, List.Sums.AllPass-from_list_all}
use Rattle.std.proofs.lemmas.List.{Sums.fails_before_first, Sums.passes_at_first, get_or_default}
use Rattle.std.proofs.lemmas.Map.Keys.{IsDistinct-cons, IsDistinct-from_apart, apart_from_distinct}
use Rattle.std.proofs.lemmas.Map.{Made.IsDistinct-from_count, Steps.length-le_from_distinct_below}
use Rattle.std.proofs.lemmas.List.Elements.{All-weaker, All-get_or, All-cons, All-from_get_or, recursion_from_All}
use Rattle.kd_tables.specs.Permutation.{alphabet, IsPermutation26, IsOwnInverse, MovesEachLetter}
use Rattle.kd_tables.specs.WiringText.{are_capitals, are_distinct_letters, is_permutation, is_ring_text, is_reflection}
use Rattle.kd_tables.specs.declared.reflector.Reflector.TheVariants as reflectors

by_order : (p : List ℕ) (j k : ℕ) → IsDistinct nat_eq p → j < length p → k < length p
    → slice_index p j ≡ slice_index p k
    → (j ≡ k) ⊎ ((j < k) ⊎ (k < j)) → j ≡ k
by_order p j k h a b e (inl same) = same
by_order p j k h a b e (inr (inl lt)) =
    absurd (eqb-false (slice_index p j) (slice_index p k) (apart_from_distinct nat_eq p j k 0 h lt b) e)
by_order p j k h a b e (inr (inr lt)) =
    absurd (eqb-false (slice_index p k) (slice_index p j) (apart_from_distinct nat_eq p k j 0 h lt a) (sym e))

-- In a list of different numbers, equal numbers are at one place.
pub IsDistinct-index : (p : List ℕ) (j k : ℕ) → IsDistinct nat_eq p → j < length p → k < length p
    → slice_index p j ≡ slice_index p k → j ≡ k
IsDistinct-index p j k h a b e = by_order p j k h a b e (cases_order j k)

-- ---- permutations of the alphabet

distinct_of_permutation : (p : List ℕ) → IsPermutation26 p → IsDistinct nat_eq p
distinct_of_permutation p h = IsDistinct-from_apart nat_eq p
    (λ i j d lt b. ne_eqb (get_or p i d) (get_or p j d)
    (λ e. absurd (omega (
      arith,
      h.each_once.apart i j (omega (arith, h.size)) (omega (arith, h.size))
          (get_or_default p i 0 d (omega arith) ∙ e ∙ get_or_default p j d 0 b),
    ))))

found_within : (n : ℕ) (xs : List ℕ) → All (λ x. x < n) xs → (q : ℕ) → Any (λ x. eqb q x ≡ true) xs → q < n
found_within n xs each q (k, x, lt, at, same) =
    subst (λ z. z < n) (at ∙ sym (eqb-true q x same)) (All-get_or (λ z. z < n) xs k x lt each)

any_within : (n : ℕ) (xs : List ℕ) → All (λ x. x < n) xs → (q : ℕ) → list_any (eqb q) xs ≡ true → q < n
any_within n xs each q h = found_within n xs each q (Any-from_list_any (eqb q) xs h)

-- No number below 26 is missing in a permutation.
no_other : (p : List ℕ) (y : ℕ) → IsPermutation26 p → y < 26 → 26 ≤ position_or_len (λ x. x == y) p → ⊥
no_other p y h lt missing =
    let within : All (λ z. z < 26) p =
    All-from_get_or (λ z. z < 26) p 0 (λ k k_lt. h.each_once.within k (omega (arith, h.size))) in
    let apart = λ (k : ℕ) (k_lt : k < length p). ne_eqb y (slice_index p k)
    (λ e. eqb-false (slice_index p k) y (fails_before_first (λ x. x == y) p k 0 (omega (arith, h.size))) (sym e)) in
    let distinct = IsDistinct-cons nat_eq y p (recursion_from_All (λ x. nat_eq y x ≡ false) p
    (All-from_get_or (λ x. nat_eq y x ≡ false) p 0 apart)) (distinct_of_permutation p h) in
    absurd (omega (
      arith,
      h.size,
      length-le_from_distinct_below (y ∷ p) 26 distinct
          (any_within 26 (y ∷ p) (All-cons (λ z. z < 26) y p lt within)),
    ))

place_by_cases : (p : List ℕ) (y : ℕ) → IsPermutation26 p → y < 26
    → (position_or_len (λ x. x == y) p < 26) ⊎ (26 ≤ position_or_len (λ x. x == y) p)
    → position_or_len (λ x. x == y) p < 26
place_by_cases p y e d g = grind (arith, no_other)

-- Each letter has a place in a permutation.
pub place_within : (p : List ℕ) (y : ℕ) → IsPermutation26 p → y < 26 → position_or_len (λ x. x == y) p < 26
place_within p y h lt = place_by_cases p y h lt (cases_lt (position_or_len (λ x. x == y) p) 26)

-- In a permutation, the place that a search for letter `y` finds has the letter `y`.
pub slice_index-position_or_len : (p : List ℕ) (y : ℕ) → IsPermutation26 p → y < 26
    → slice_index p (position_or_len (λ x. x == y) p) ≡ y
slice_index-position_or_len p y h lt =
    eqb-true (slice_index p (position_or_len (λ x. x == y) p)) y
    (passes_at_first (λ x. x == y) p 0 (omega (arith, h.size, place_within p y h lt)))

-- ---- what the tests of a text say

are_distinct_letters-within : (p : List ℕ) → are_distinct_letters p ≡ true → All (λ x. x < 26) p
are_distinct_letters-within p h = grind (arith, All-weaker, ltb-true, AllPass-from_list_all)

letters_differ : (p : List ℕ) → are_distinct_letters p ≡ true → IsDistinct nat_eq p
letters_differ p h = grind (arith, IsDistinct-from_count, nat_eq_equiv, eqb-true)

pub test_permutes : (p : List ℕ) → is_permutation p ≡ true → IsPermutation26 p
test_permutes p h =
    let parts = and_parts (length p == 26) (are_distinct_letters p) h in
    let size : length p ≡ 26 = eqb-true (length p) 26 parts.0 in
    record {
      size = size;
      each_once = record {
        within = λ k lt. All-get_or (λ x. x < 26) p k 0 (omega arith) (are_distinct_letters-within p parts.1);
        apart = λ j k a b e. IsDistinct-index p j k (letters_differ p parts.1) (omega arith) (omega arith) e;
      };
    }

pub text_makes_ring : (n : ℕ) (text : List ℕ) → length (letters_of text) ≡ n → is_ring_text text ≡ true
    → IsRing n (letters_of text)
text_makes_ring n text size h =
    let letters = (and_parts (are_capitals text) (are_distinct_letters (letters_of text)) h).1 in
    record {
      full = size;
      within = are_distinct_letters-within (letters_of text) letters;
      differ = letters_differ (letters_of text) letters;
    }

-- A table that passes `is_reflection` maps each letter to another letter, and that letter back.
is_reflection-reflects : (p : List ℕ) → is_reflection p ≡ true
    → All (λ x. (not (slice_index p x == x) && (slice_index p (slice_index p x) == x)) ≡ true) alphabet
is_reflection-reflects p h =
    AllPass-from_list_all (λ x. not (slice_index p x == x) && (slice_index p (slice_index p x) == x)) alphabet h

pub reflection_returns : (p : List ℕ) → is_reflection p ≡ true → IsOwnInverse p
reflection_returns p h =
    All-weaker (λ x. (not (slice_index p x == x) && (slice_index p (slice_index p x) == x)) ≡ true)
    (λ x. slice_index p (slice_index p x) ≡ x) (λ x e. eqb-true (slice_index p (slice_index p x)) x
    (and_parts (not (slice_index p x == x)) (slice_index p (slice_index p x) == x) e).1) alphabet
    (is_reflection-reflects p h)

pub reflection_moves : (p : List ℕ) → is_reflection p ≡ true → MovesEachLetter p
reflection_moves p h =
    All-weaker (λ x. (not (slice_index p x == x) && (slice_index p (slice_index p x) == x)) ≡ true)
    (λ x. slice_index p x ≢ x) (λ x e. eqb-false (slice_index p x) x (not-true (slice_index p x == x)
    (and_parts (not (slice_index p x == x)) (slice_index p (slice_index p x) == x) e).0)) alphabet
    (is_reflection-reflects p h)

-- ---- the published tables

-- The published wiring of each wheel is a permutation.
pub wiring_permutes : (wheel : Wheel) → IsPermutation26 (wiring_of wheel)
unfolding wiring_of
wiring_permutes I = test_permutes _ refl
wiring_permutes wheel = test_permutes (wiring_of wheel) refl

-- The published wiring of each reflector is a permutation.
pub reflector_permutes : (reflector : Reflector) → IsPermutation26 (reflector_of reflector)
unfolding reflector_of
reflector_permutes reflectors.A = test_permutes _ refl
reflector_permutes reflector = test_permutes (reflector_of reflector) refl

pub reflector_returns : (reflector : Reflector) → IsOwnInverse (reflector_of reflector)
unfolding reflector_of
reflector_returns reflectors.A = reflection_returns (reflector_of reflectors.A) refl
reflector_returns reflector = reflection_returns (reflector_of reflector) refl

pub reflector_moves : (reflector : Reflector) → MovesEachLetter (reflector_of reflector)
unfolding reflector_of
reflector_moves reflectors.A = reflection_moves (reflector_of reflectors.A) refl
reflector_moves reflector = reflection_moves (reflector_of reflector) refl

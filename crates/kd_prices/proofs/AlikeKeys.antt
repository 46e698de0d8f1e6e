-- Columns at two different places are equal exactly if `ReadAlike` holds for these places. For cables, bars and rows,
-- `StandAlike` or `ReadAlike` itself says that they are equal. So equal keys have equal prices exactly if prices are
-- equal wherever one of the two holds.
use Rattle.kd_prices.proofs.AlikePrices.{nothing_at, same_at}
use Rattle.kd_prices.proofs.Prelude.{All-from_recursion, AllByRecursion, columns_are_the_pairs}
use Rattle.kd_prices.proofs.Prelude.{AreEnds, HaveOnePriceEach, letters_in_cables, recursion_from_All, slice_get-get_or}
use Rattle.kd_prices.proofs.Prelude.{IsPairInOrder, cable_in_order, columns_in_order, letters_in_pairs}
use Rattle.kd_prices.proofs.Prelude.{NoLetterTwice, Option, get_or_default, pair_in_order, smaller_first}
use Rattle.kd_prices.proofs.Prelude.{IsLegalDay, RotorParts, columns_of, get_or-map, get_or-zip, length-map}
use Rattle.kd_prices.proofs.Prelude.{IsMachine, ReadAlike, Some, eqb-false, length-zip, nat_tests, replicate, slice_get}
use Rattle.kd_prices.proofs.Prelude.{Contains, Rotor, RotorDay, arith, false, get_or, length, price_at, ℕ}
use Rattle.kd_prices.proofs.Prelude.{All, List, None, Parts, Pin, Rotor, eqb, inl, inr, map, refl, subst, zero, ℤ, ◌++◌}
use Rattle.kd_prices.proofs.Prelude.{[], ap, pos, suc, sym, zip, ◌-◌, ◌<◌, ◌↔◌, ◌∙◌, ◌∷◌, ◌≡◌, ◌≤◌, ◌⊎◌}
use Rattle.std.{proofs.lemmas.List.Elements.Contains-get_or, specs.List.IsDistinct}

-- ---- the letters of cables and columns are in order, as a card writes them

abbrev in_each_order : List (Option ℕ × Option ℕ) → List (Option ℕ × Option ℕ)
in_each_order cables = map (λ cable. cable_in_order cable.0 cable.1) cables

abbrev are_ends : Option ℕ × Option ℕ → Type 0
are_ends ends = AreEnds ends.0 ends.1

cables_in_form : (cables : List (Option ℕ × Option ℕ)) → in_each_order cables ≡ cables
    → AllByRecursion (λ letter. letter < 26) (letters_in_cables cables)
    → IsDistinct eqb (letters_in_cables cables) → AllByRecursion are_ends cables
unfolding IsDistinct
cables_in_form [] e within apart = tt
cables_in_form ((None, None) ∷ cables) e within apart = (tt, cables_in_form cables (cc) within apart)
cables_in_form ((None, Some b) ∷ cables) e within apart = grind arith
cables_in_form ((Some a, None) ∷ cables) e within apart = (within.0, cables_in_form cables (cc) within.1 apart.1)
cables_in_form ((Some a, Some b) ∷ cables) e within apart =
    grind (arith, nat_tests, cables_in_form cables (cc) within.1.1 apart.1.1)

abbrev cables_of : Parts → List (Option ℕ × Option ℕ)
cables_of (Rotor m) = m.cables
cables_of (Pin m) = []

pub cables_are_in_form : (m : RotorParts) → IsMachine (Rotor m) → All (λ ends. AreEnds ends.0 ends.1) m.cables
cables_are_in_form m machine =
    let cables = machine.legal.cables in
    All-from_recursion are_ends m.cables (cables_in_form m.cables (ap cables_of machine.cables)
    (recursion_from_All (λ letter. letter < 26) (letters_in_cables m.cables) cables.within) cables.apart)

nothings_in_form : (n : ℕ) → AllByRecursion IsPairInOrder (map pair_in_order (replicate n None))
nothings_in_form zero = tt
nothings_in_form (suc n) = (tt, nothings_in_form n)

pairs_in_form : (n : ℕ) (pairs : List (ℕ × ℕ)) → AllByRecursion (λ letter. letter < 26) (letters_in_pairs pairs)
    → NoLetterTwice pairs → AllByRecursion IsPairInOrder (map pair_in_order (map Some pairs ++ replicate n None))
unfolding IsDistinct
pairs_in_form n [] within apart = nothings_in_form n
pairs_in_form n ((a, b) ∷ pairs) within apart = grind (arith, eqb-false, pairs_in_form n pairs within.1.1 apart.1.1)

pub columns_are_in_form : (s : RotorDay) → IsLegalDay (Rotor s) → All IsPairInOrder (columns_in_order s.pairs)
columns_are_in_form s legal =
    let pairs = legal.pairs in
    All-from_recursion IsPairInOrder (columns_in_order s.pairs) (pairs_in_form (13 - length s.pairs) s.pairs
    (recursion_from_All (λ letter. letter < 26) (letters_in_pairs s.pairs) pairs.within) pairs.apart)

-- ---- equal pairs are at one place

away : (p : ℕ × ℕ) (pairs : List (ℕ × ℕ)) (k : ℕ) → AllByRecursion (λ y. eqb p.0 y ≡ false) (letters_in_pairs pairs)
    → pair_in_order (slice_get pairs k) ≡ Some (smaller_first p.0 p.1) → ⊥
away p [] k h e = cc
away p (q ∷ pairs) zero h e = grind (arith, eqb-false)
away p (q ∷ pairs) (suc k) h e = away p pairs k h.1.1 e

pairs_told : (pairs : List (ℕ × ℕ)) (i k : ℕ) → NoLetterTwice pairs
    → pair_in_order (slice_get pairs i) ≡ pair_in_order (slice_get pairs k)
    → ((length pairs ≤ i) × (length pairs ≤ k)) ⊎ (i ≡ k)
unfolding IsDistinct
pairs_told [] i k apart e = inl (omega arith, omega arith)
pairs_told (p ∷ pairs) zero zero apart e = inr refl
pairs_told (p ∷ pairs) zero (suc k) apart e = absurd (away p pairs k apart.0.1 (sym e))
pairs_told (p ∷ pairs) (suc i) zero apart e = absurd (away p pairs i apart.0.1 e)
pairs_told (p ∷ pairs) (suc i) (suc k) apart e = grind (arith, pairs_told pairs i k apart.1.1 e)

-- ---- keys that are equal

-- Keys at two places are equal if `Alike` holds for the places; if it doesn't, they are equal only if the two
-- places are one.
abbrev pub AreTold : {X : Type 0} → List X → X → (ℕ → ℕ → Type 0) → Type 0
AreTold keys d Alike =
    (i k : ℕ) → i < length keys → k < length keys → (get_or keys i d ≡ get_or keys k d → Alike i k ⊎ (i ≡ k))
    × (Alike i k → get_or keys i d ≡ get_or keys k d)

pub each_told : {X : Type 0} (keys : List X) (d : X) → AreTold keys d (λ i k. slice_get keys i ≡ slice_get keys k)
each_told keys d i k inside within = (
  λ same. inl (slice_get-get_or keys i d inside ∙ ap (λ x. Some x) same ∙ sym (slice_get-get_or keys k d within)),
  λ alike. same_at keys i k d alike,
)

pub columns_told : (s : RotorDay) → IsLegalDay (Rotor s)
    → AreTold (columns_in_order s.pairs) None (ReadAlike (Rotor s))
columns_told s legal i k inside within =
    let columns = columns_of s.pairs in
    let size = length-map columns pair_in_order in
    let at = λ (place : ℕ) (low : place < length columns). get_or-map pair_in_order columns place None None low in
    let one = at i (omega (arith, inside)) in
    let other = at k (omega (arith, within)) in (
      λ same.
          pairs_told s.pairs i k legal.pairs.apart
          (ap pair_in_order (sym (columns_are_the_pairs s.pairs i)) ∙ sym one ∙ same ∙ other
          ∙ ap pair_in_order (columns_are_the_pairs s.pairs k)),
      λ past. one ∙ ap pair_in_order (nothing_at s.pairs i past.0 ∙ sym (nothing_at s.pairs k past.1)) ∙ sym other,
    )

-- ---- one price each

pair_at : {X : Type 0} (xs : List X) (i : ℕ) (d x : X) → i < length xs → get_or xs i x ≡ x → get_or xs i d ≡ x
pair_at xs i d x inside is = get_or_default xs i d x inside ∙ is

module _ {X : Type 0} (keys : List X) (d : X) (Alike : ℕ → ℕ → Type 0) (told : AreTold keys d Alike)
    (prices : List ℤ)
    (n : ℕ) (many : length keys ≡ n) (size : length prices ≡ n) where
  at : (i : ℕ) → i < n → get_or (zip keys prices) i (d, pos 0) ≡ (get_or keys i d, price_at prices i)
  at i low = get_or-zip keys prices i (d, pos 0) (omega (arith, many, low)) (omega (arith, size, low))

  has : (i : ℕ) → i < n → Contains (zip keys prices) (get_or keys i d, price_at prices i)
  has i low =
      subst (Contains (zip keys prices)) (at i low)
      (Contains-get_or (zip keys prices) i (d, pos 0) (omega (arith, length-zip keys prices, many, size, low)))

  pub one_price_is : HaveOnePriceEach (zip keys prices)
      ↔ ((i k : ℕ) → i < n → k < n → Alike i k → price_at prices i ≡ price_at prices k)
  one_price_is = (
    λ one i k low under alike.
        let same = (told i k (omega (arith, many, low)) (omega (arith, many, under))).1 alike in
        one (get_or keys i d) (price_at prices i) (price_at prices k) (has i low)
        (subst (λ x. Contains (zip keys prices) (x, price_at prices k)) (sym same) (has k under)),
    λ equal key price other one two.
        let low : one.0 < n = omega (arith, one.1, length-zip keys prices, many, size) in
        let under : two.0 < n = omega (arith, two.1, length-zip keys prices, many, size) in
        let here = sym (at one.0 low) ∙ pair_at (zip keys prices) one.0 (d, pos 0) (key, price) one.1 one.2 in
        let there = sym (at two.0 under) ∙ pair_at (zip keys prices) two.0 (d, pos 0) (key, other) two.1 two.2 in
        let same = told one.0 two.0 (omega (arith, many, low)) (omega (arith, many, under)) in
        grind (arith, equal one.0 two.0 low under),
  )

-- Letters that all differ: the letters of the first thing are new and distinct, and those of the other things differ.
use Rattle.std.proofs.Common.{List, [], arith, drop, false, get_or, length, nat_eq, refl, subst, sym, take, true, ℕ}
use Rattle.std.proofs.Common.{◌++◌, ◌-◌, ◌<◌, ◌≤◌, ◌∷◌, ◌≡◌, ◌↔◌}
use Rattle.std.proofs.lemmas.{Bool.{and_from, and_parts, not-true, or_from, or_parts}, Bool.Decides.{nat_tests}}
use Rattle.std.proofs.lemmas.{List.{take_all}}
use Rattle.std.specs.List.{AllByRecursion, IsDistinct, flat_map}
use Rattle.kd_tables.specs.Pairs.{are_new_and_distinct, has_letter}

pub eqb_flips : (x y : ℕ) → nat_eq x y ≡ nat_eq y x
eqb_flips x y = grind (arith, nat_tests)

-- `has_letter` is false exactly if the letter differs from each of the letters
pub has_letter-AllByRecursion : (letters : List ℕ) (letter : ℕ)
    → (has_letter letters letter ≡ false) ↔ AllByRecursion (λ other. nat_eq letter other ≡ false) letters
has_letter-AllByRecursion [] letter = (λ _. tt, λ _. refl)
has_letter-AllByRecursion (other ∷ letters) letter = grind
    (arith, or_parts, or_from, eqb_flips, has_letter-AllByRecursion letters letter)

-- all of `letters` and `others` are different exactly if `others` are all different, and `are_new_and_distinct` is true
-- for `letters` and `others`
pub new_tells : (letters others : List ℕ)
    → IsDistinct nat_eq (letters ++ others) ↔ ((are_new_and_distinct letters others ≡ true) × IsDistinct nat_eq others)
unfolding IsDistinct
new_tells [] others = (λ h. (refl, h), λ h. h.1)
new_tells (letter ∷ letters) others = grind
    (arith, and_parts, and_from, not-true, has_letter-AllByRecursion, new_tells letters others)

pub IsDistinct-nil : IsDistinct nat_eq []
unfolding IsDistinct
IsDistinct-nil = tt

-- how letters are tested, thing by thing; `letters` are those of a thing, such as a pair
module _ {Thing : Type 0} (letters : Thing → List ℕ) where
  abbrev all_letters : List Thing → List ℕ
  all_letters things = flat_map letters things

  pub IsDistinct-none : (things : List Thing) → length things < 1 → IsDistinct nat_eq (all_letters things)
  IsDistinct-none [] none = IsDistinct-nil
  IsDistinct-none (thing ∷ things) none = absurd (omega arith)

  pub IsDistinct-first_and_rest : (things : List Thing) (first : Thing) → 1 ≤ length things
      → first ≡ get_or things 0 first → IsDistinct nat_eq (all_letters things)
      ↔ ((are_new_and_distinct (letters first) (all_letters (take (length things - 1) (drop 1 things))) ≡ true)
      × IsDistinct nat_eq (all_letters (take (length things - 1) (drop 1 things))))
  IsDistinct-first_and_rest [] first some is = absurd (omega arith)
  IsDistinct-first_and_rest (thing ∷ things) first some is =
      let rest = take (length (thing ∷ things) - 1) (drop 1 (thing ∷ things)) in
      let same : rest ≡ things = take_all (length (thing ∷ things) - 1) things (omega arith) in
      let Told = λ (one : Thing) (others : List Thing). IsDistinct nat_eq (all_letters (thing ∷ things))
      ↔ ((are_new_and_distinct (letters one) (all_letters others) ≡ true) × IsDistinct nat_eq (all_letters others)) in
      subst (Told first) (sym same)
      (subst (λ one. Told one things) (sym is) (new_tells (letters thing) (all_letters things)))

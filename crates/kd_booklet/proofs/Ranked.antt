-- Lists whose items come in the order of their numbers.
use Rattle.std.proofs.Common.{◌≡◌, ℕ, ◌+◌, ◌<◌, ◌≤◌, Bool, true, false, not, List, [], ◌∷◌}
use Rattle.std.proofs.Common.{◌++◌, length, arith}
use Rattle.std.proofs.Common.{filter, nat_eq, subst, sym, refl, zip}
use Rattle.std.specs.List.{list_all}
use Rattle.std.specs.Prelude.{if◌then◌else◌}
use Rattle.std.proofs.lemmas.Bool.{and_parts}
use Rattle.kd_state.specs.declared.setting.Setting.{Setting}
use Rattle.kd_card.specs.Loose.{lines_from}
use Rattle.kd_page.specs.PageOrder.{IsRanked}

module _ {X : Type 0} (key : X → ℕ) where
  abbrev pub AllAre : ℕ → List X → Type 0
  AllAre number [] = Unit {0}
  AllAre number (x ∷ xs) = (key x ≡ number) × AllAre number xs

  same_number : (a b : ℕ) → nat_eq a b ≡ true → a ≡ b
  same_number a b same = grind (arith, same)

  pub all_are : (number : ℕ) (xs : List X) → list_all (λ x. nat_eq (key x) number) xs ≡ true → AllAre number xs
  all_are number [] all = tt
  all_are number (x ∷ xs) all =
      let parts = and_parts (nat_eq (key x) number) (list_all (λ y. nat_eq (key y) number) xs) all in
      (same_number (key x) number parts.0, all_are number xs parts.1)

  pub ranked_from : (from other end : ℕ) (xs : List X) → from ≤ other → IsRanked key other end xs
      → IsRanked key from end xs
  ranked_from from other end [] below ranked = tt
  ranked_from from other end (x ∷ xs) below ranked = (omega (arith, below, ranked.0), ranked.1, ranked.2)

  -- Items of one number, and then items of this number or later ones.
  pub ranked_after : (number end : ℕ) (front rest : List X) → number < end → AllAre number front
      → IsRanked key number end rest → IsRanked key number end (front ++ rest)
  ranked_after number end [] rest within same ranked = ranked
  ranked_after number end (x ∷ front) rest within same ranked = (
    omega (arith, same.0),
    omega (arith, same.0, within),
    subst (λ from. IsRanked key from end (front ++ rest)) (sym same.0)
        (ranked_after number end front rest within same.1 ranked),
  )

  -- If all items of one number pass a test or all fail it, a list of such items stays or goes.
  pub filter_by : (p : X → Bool) (passes : Bool) (number : ℕ) → ((x : X) → key x ≡ number → p x ≡ passes)
      → (xs : List X) → AllAre number xs → filter p xs ≡ (if passes then xs else [])
  filter_by p true number each [] all = refl
  filter_by p true number each (x ∷ xs) all = grind (arith, each x all.0, filter_by p true number each xs all.1)
  filter_by p false number each [] all = refl
  filter_by p false number each (x ∷ xs) all = grind (arith, each x all.0, filter_by p false number each xs all.1)

module _ {X : Type 0} (p : X → Bool) where
  pub filter_all : (xs : List X) → list_all p xs ≡ true → filter p xs ≡ xs
  filter_all [] all = refl
  filter_all (x ∷ xs) all =
      let parts = and_parts (p x) (list_all p xs) all in grind (arith, parts, filter_all xs parts.1)

  pub filter_none : (xs : List X) → list_all (λ x. not (p x)) xs ≡ true → filter p xs ≡ []
  filter_none [] none = refl
  filter_none (x ∷ xs) none =
      let parts = and_parts (not (p x)) (list_all (λ y. not (p y)) xs) none in
      grind (arith, parts, filter_none xs parts.1)

-- If the settings of each number have this number, all settings ascend by it.
pub ranked_lines : {Z : Type 0} (key : Setting → ℕ) (lines : ℕ → Z → List Setting)
    → ((number : ℕ) (z : Z) → AllAre key number (lines number z)) → (number end : ℕ) (zs : List Z)
    → number + length zs ≤ end → IsRanked key number end (lines_from lines number zs)
ranked_lines key lines each number end [] within = tt
ranked_lines key lines each number end (z ∷ zs) within =
    ranked_after key number end (lines number z) (lines_from lines (number + 1) zs) (omega (arith, within))
    (each number z)
    (ranked_from key number (number + 1) end (lines_from lines (number + 1) zs) (omega arith)
    (ranked_lines key lines each (number + 1) end zs (omega (arith, within))))

pub zip_within : {A B : Type 0} (xs : List A) (ys : List B) → length (zip xs ys) ≤ length xs
zip_within [] ys = omega arith
zip_within (x ∷ xs) [] = omega arith
zip_within (x ∷ xs) (y ∷ ys) = omega (arith, zip_within xs ys)

-- A list whose items ascend by a number is its groups by this number, one after another.
use Rattle.std.proofs.Common.{◌≡◌, ℕ, zero, suc, ◌+◌, ◌<◌, ◌≤◌, List, [], ◌∷◌, ◌++◌, filter, arith, refl}
use Rattle.std.proofs.Common.{nat_eq, subst, inl, inr}
use Rattle.std.proofs.lemmas.Bool.Decides.{eqb_tells}
use Rattle.kd_page.specs.PageOrder.{IsRanked}

module _ {X : Type 0} (key : X → ℕ) where
  abbrev pub group : ℕ → List X → List X
  group number xs = filter (λ x. nat_eq (key x) number) xs

  -- the groups of this many numbers, from `from` on
  abbrev pub groups : ℕ → ℕ → List X → List X
  groups from zero xs = []
  groups from (suc count) xs = group from xs ++ groups (from + 1) count xs

  -- An item whose number is below all numbers of the groups is in none of them.
  skipped : (from count : ℕ) (x : X) (xs : List X) → key x < from → groups from count (x ∷ xs) ≡ groups from count xs
  skipped from zero x xs below = refl
  skipped from (suc count) x xs below = grind (arith, skipped (from + 1) count x xs (omega arith))

  none_below : (from other end : ℕ) (xs : List X) → from < other → IsRanked key other end xs → group from xs ≡ []
  none_below from other end [] below ranked = refl
  none_below from other end (x ∷ xs) below ranked =
      let rest = none_below from (key x) end xs (omega (arith, ranked.0)) ranked.2 in
      grind (arith, rest, ranked.0)

  -- The items in the first group, and then the items of the later groups.
  first_group : (from count end : ℕ) (xs : List X)
      → ((ys : List X) → IsRanked key (from + 1) end ys → groups (from + 1) count ys ≡ ys)
      → IsRanked key from end xs → group from xs ++ groups (from + 1) count xs ≡ xs
  first_group from count end [] later ranked = later [] tt
  first_group from count end (x ∷ xs) later ranked = elim (eqb_tells (key x) from) [
    | inl e ↦
        let rest : IsRanked key from end xs = subst (λ number. IsRanked key number end xs) e.1 ranked.2 in
        let skip = skipped (from + 1) count x xs (omega (arith, e.1)) in
        let here = first_group from count end xs later rest in
        grind (arith, e.0, skip, here)
    | inr e ↦
        let above : from + 1 ≤ key x = omega (arith, ranked.0, e.1) in
        let none = none_below from (key x) end xs (omega (arith, above)) ranked.2 in
        let all = later (x ∷ xs) (above, ranked.1, ranked.2) in
        grind (arith, e.0, none, all)
  ]

  pub grouped : (count from end : ℕ) (xs : List X) → end ≤ from + count → IsRanked key from end xs
      → groups from count xs ≡ xs
  grouped zero from end [] within ranked = refl
  grouped zero from end (x ∷ xs) within ranked = absurd (omega (arith, within, ranked.0, ranked.1))
  grouped (suc count) from end xs within ranked =
      first_group from count end xs (λ ys. grouped count (from + 1) end ys (omega (arith, within))) ranked

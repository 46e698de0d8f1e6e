-- Parts that a text has one after another.
use Rattle.std.proofs.Common.{◌≡◌, ℕ, Bool, true, false, ◌==◌, List, [], ◌∷◌, ◌++◌, flat_map, filter, length, arith}
use Rattle.std.proofs.Common.{refl, ap, sym, subst, ◌∙◌, append_assoc}
use Rattle.std.specs.Prelude.{if◌then◌else◌}
use Rattle.kd_page.specs.ShownBoxes.{HasInTurn}

module _ {X : Type 0} (part : X → List ℕ) where
  abbrev Has : List X → List ℕ → Type 0
  Has = HasInTurn part

  -- A text in front, or behind, changes nothing.
  pub behind : (a : List ℕ) (xs : List X) (text : List ℕ) → HasInTurn part xs text → HasInTurn part xs (a ++ text)
  behind a [] text has = tt
  behind a (x ∷ xs) text has = (
    a ++ has.0,
    has.1,
    ap (λ rest. a ++ rest) has.2 ∙ sym (append_assoc a (has.0 ++ part x) has.1)
        ∙ ap (λ front. front ++ has.1) (sym (append_assoc a has.0 (part x))),
    has.3,
  )

  pub before : (xs : List X) (text b : List ℕ) → HasInTurn part xs text → HasInTurn part xs (text ++ b)
  before [] text b has = tt
  before (x ∷ xs) text b has = (
    has.0,
    has.1 ++ b,
    ap (λ front. front ++ b) has.2 ∙ append_assoc (has.0 ++ part x) has.1 b,
    before xs has.1 b has.3,
  )

  pub in_both : (xs ys : List X) (s t : List ℕ) → HasInTurn part xs s → HasInTurn part ys t
      → HasInTurn part (xs ++ ys) (s ++ t)
  in_both [] ys s t one two = behind s ys t two
  in_both (x ∷ xs) ys s t one two = (
    one.0,
    one.1 ++ t,
    ap (λ front. front ++ t) one.2 ∙ append_assoc (one.0 ++ part x) one.1 t,
    in_both xs ys one.1 t one.3 two,
  )

  pub in_each : {Y : Type 0} (f : Y → List X) (g : Y → List ℕ) → ((y : Y) → HasInTurn part (f y) (g y)) → (ys : List Y)
      → HasInTurn part (flat_map f ys) (flat_map g ys)
  in_each f g each [] = tt
  in_each f g each (y ∷ ys) = in_both (f y) (flat_map f ys) (g y) (flat_map g ys) (each y) (in_each f g each ys)

  -- Items that pass a test, in the text of these items.
  pub passing : (p : X → Bool) (xs : List X)
      → HasInTurn part (filter p xs) (flat_map (λ x. if p x then part x else []) xs)
  passing p [] = tt
  passing p (x ∷ xs) =
      let rest = passing p xs in
      elim (p x) as (λ b. HasInTurn part (if b then x ∷ filter p xs else filter p xs)
      ((if b then part x else []) ++ flat_map (λ y. if p y then part y else []) xs)) [
        | true ↦ ([], flat_map (λ y. if p y then part y else []) xs, refl, rest)
        | false ↦ rest
      ]

  -- Any text has no parts in turn.
  pub has_none : (xs : List X) (text : List ℕ) → xs ≡ [] → HasInTurn part xs text
  has_none [] text none = tt
  has_none (x ∷ xs) text none = absurd (grind (arith, none))

  -- If there are no items, another text may stand there.
  pub if_some : (xs : List X) (other text : List ℕ) → HasInTurn part xs text
      → HasInTurn part xs (if length xs == 0 then other else text)
  if_some [] other text has = tt
  if_some (x ∷ xs) other text has =
      let some : (length (x ∷ xs) == 0) ≡ false = grind arith in
      subst (λ test. HasInTurn part (x ∷ xs) (if test then other else text)) (sym some) has

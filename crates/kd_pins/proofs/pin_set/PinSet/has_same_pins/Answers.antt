use Rattle.kd_pins.specs.declared.pin_set.PinSet.{PinSet}
use Rattle.std.{proofs.Common.{Bool, List, ap, refl, ◌∙◌, ◌≡◌}, specs.Cmp.booleans_Decides}
use Rattle.std.proofs.lemmas.{Bool.Decides.{Decides-and, Decides-at, Decides-like}, Slice.Eq.slice_eq-Decides}
use Rattle.kd_pins.proofs.pin_set.PinSet.has_same_pins.Goals as goal

-- The two sets have the same six lists of pins.
abbrev SamePins : PinSet → PinSet → Type 0
SamePins a b = (a.w1 ≡ b.w1) × ((a.w2 ≡ b.w2) × ((a.w3 ≡ b.w3) × ((a.w4 ≡ b.w4) × ((a.w5 ≡ b.w5) × (a.w6 ≡ b.w6)))))

abbrev pins : List Bool → List Bool → List Bool → List Bool → List Bool → List Bool → PinSet
pins w1 w2 w3 w4 w5 w6 = record { w1 = w1; w2 = w2; w3 = w3; w4 = w4; w5 = w5; w6 = w6 }

same_set : (a b : PinSet) → SamePins a b → a ≡ b
same_set a b h =
    ap (λ w. pins w a.w2 a.w3 a.w4 a.w5 a.w6) h.0 ∙ ap (λ w. pins b.w1 w a.w3 a.w4 a.w5 a.w6) h.1.0
    ∙ ap (λ w. pins b.w1 b.w2 w a.w4 a.w5 a.w6) h.1.1.0
    ∙ ap (λ w. pins b.w1 b.w2 b.w3 w a.w5 a.w6) h.1.1.1.0 ∙ ap (λ w. pins b.w1 b.w2 b.w3 b.w4 w a.w6) h.1.1.1.1.0
    ∙ ap (λ w. pins b.w1 b.w2 b.w3 b.w4 b.w5 w) h.1.1.1.1.1

same_pins : (a b : PinSet) → a ≡ b → SamePins a b
same_pins a b e = (
  ap (λ (p : PinSet). p.w1) e,
  (
    ap (λ (p : PinSet). p.w2) e,
    (
      ap (λ (p : PinSet). p.w3) e,
      (
        ap (λ (p : PinSet). p.w4) e,
        (ap (λ (p : PinSet). p.w5) e, ap (λ (p : PinSet). p.w6) e),
      ),
    ),
  ),
)

pub returns : goal.returns
returns c =
    let a = c.args.self.now in
    let b = c.args.other.now in
    let each = λ (xs ys : List Bool). slice_eq-Decides booleans_Decides xs ys _ refl in
    let decided = Decides-like _ (same_set a b) (same_pins a b)
    (Decides-and _ _ (each a.w1 b.w1) (Decides-and _ _ (each a.w2 b.w2) (Decides-and _ _ (each a.w3 b.w3)
    (Decides-and _ _ (each a.w4 b.w4) (Decides-and _ _ (each a.w5 b.w5) (each a.w6 b.w6)))))) in
    Decides-at c.eq.result _ c.eq.ensures decided

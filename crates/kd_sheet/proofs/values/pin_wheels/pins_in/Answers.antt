use Rattle.kd_sheet.proofs.ReadBack.Described.KeyValues.Steps.{List, [], arith, array-fits, array-no_items}
use Rattle.kd_sheet.proofs.ReadBack.Described.KeyValues.Steps.{array-unfit, eq-eqb, get_or, length}
use Rattle.kd_sheet.proofs.ReadBack.Described.KeyValues.Steps.{length-map, map, nat_eq, ne_eqb, pins_for, pins_in, refl, rules}
use Rattle.kd_sheet.proofs.ReadBack.Described.KeyValues.Steps.{view, ◌∷◌, ◌≡◌, ◌≢◌}
use Rattle.kd_sheet.proofs.values.pin_wheels.pins_in.Goals as goal

-- a list of six items is the list of what a pattern takes from it
six_items : {A : Type 0} (items : List A) → length items ≡ 6 → (one two three four five six : A)
    → one ≡ get_or items 0 one → two ≡ get_or items 1 two → three ≡ get_or items 2 three → four ≡ get_or items 3 four
    → five ≡ get_or items 4 five → six ≡ get_or items 5 six
    → items ≡ one ∷ two ∷ three ∷ four ∷ five ∷ six ∷ []
six_items (u ∷ v ∷ w ∷ x ∷ y ∷ z ∷ []) long one two three four five six a b c d e f = grind arith
six_items items long one two three four five six a b c d e f = absurd (omega arith)

pub returns : goal.returns
unfolding pins_in
returns c =
    let items = c.in_ok-items_at.field-0.now.items in
    let long : length c.as_slice-items.result.now ≡ 6 = omega arith in
    let same : 6 ≡ length (map view items) = omega (arith, length-map items view) in
    let six = six_items _ long _ _ _ _ _ _ c.one-item.is c.two-item.is c.three-item.is c.four-item.is c.five-item.is
    c.six-item.is in
    rw (
      c.ok_or.ensures.value,
      array-fits _ (nat_eq 6) pins_for _ _ c.in_ok-items_at.ensures (eq-eqb _ _ same),
      ← c.as_slice-items.ensures.value,
      six,
    ) c.pins_of_items.ensures

pub returns-in_err-items_at : goal.returns-in_err-items_at
unfolding pins_in
returns-in_err-items_at c =
    rw (array-no_items _ (nat_eq 6) pins_for _ _ c.in_err-items_at.ensures) (search rules)

pub returns-in_default : goal.returns-in_default
unfolding pins_in
returns-in_default c =
    let items = c.in_ok-items_at.field-0.now.items in
    let other : 6 ≢ length (map view items) = omega (arith, length-map items view) in
    rw (array-unfit _ (nat_eq 6) pins_for _ _ c.in_ok-items_at.ensures (ne_eqb _ _ other)) refl

use Rattle.std.proofs.Common.{◌≡◌, ◌+◌, ◌%◌, ℕ, length, subst, sym, ◌∙◌, refl}
use Rattle.kd_drum.proofs.{WheelSets.{in_set_of, set_of}, WheelsAfterLetters.{acts_now, key_stands}}
use Rattle.kd_drum.specs.{Converter.{PinKey, is_acting_after, pin_key_after, shown_place}, Counts.is_in_set}
use Rattle.{kd_drum.specs.SixWheels.converter_key, kd_tables.specs.Rings.ring_of}
use Rattle.kd_pins.specs.{PinWheel.is_effective, PinWheels.acting_offset, PinWheels.pins_on}
use Rattle.kd_drum.proofs.converter.Converter.acting_wheels.Goals as goal

pub returns-clause-each : goal.returns-clause-each
returns-clause-each c =
    let inside = c.self.inside in
    let stands = c.self.invariant.0 in
    let key = converter_key inside.w1 inside.w2 inside.w3 inside.w4 inside.w5 inside.w6 inside.bars in
    rw (c.from.ensures, c.from-2.ensures, c.from-3.ensures, c.from-4.ensures, c.from-5.ensures, c.from-6.ensures)
    (subst (λ (k : PinKey). (wheel : ℕ)
    → is_in_set (set_of c.acting.result c.acting-2.result c.acting-3.result c.acting-4.result c.acting-5.result
    c.acting-6.result) wheel ≡ is_acting_after k.pins k.letters 0 wheel) c.self.view_is
    (in_set_of _ _ _ _ _ _ (λ wheel. is_effective (pins_on key.pins wheel)
    ((shown_place key.letters wheel + 0 + acting_offset wheel) % length (ring_of wheel)))
    (c.acting.ensures ∙ acts_now key 1 26 inside.w1 stands.first refl refl)
    (c.acting-2.ensures ∙ acts_now key 2 25 inside.w2 stands.second refl refl)
    (c.acting-3.ensures ∙ acts_now key 3 23 inside.w3 stands.third refl refl)
    (c.acting-4.ensures ∙ acts_now key 4 21 inside.w4 stands.fourth refl refl)
    (c.acting-5.ensures ∙ acts_now key 5 19 inside.w5 stands.fifth refl refl)
    (c.acting-6.ensures ∙ acts_now key 6 17 inside.w6 stands.sixth refl refl)))

pub returns-clause-stands : goal.returns-clause-stands
returns-clause-stands c =
    let inside = c.self.inside in
    subst (λ (key : PinKey). pin_key_after key 0 ≡ key) c.self.view_is
    (sym (key_stands inside.w1 inside.w2 inside.w3 inside.w4 inside.w5 inside.w6 inside.bars c.self.invariant.0))

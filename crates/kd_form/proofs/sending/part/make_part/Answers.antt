use Rattle.kd_form.proofs.{Prelude.{refl, ◌∙◌}, MadeParts.has_internal}
use Rattle.kd_form.proofs.sending.part.make_part.Goals as goal

pub returns-in-Rotor : goal.returns-in-Rotor
returns-in-Rotor c =
    let shown = c.as_slice.ensures.value ∙ c.rotor_letters-letters.ensures.value in
    let day = c.indicator_of-indicator.ensures.day ∙ c.new-machine.ensures in
    let made = rw (c.indicator_of-indicator.ensures.value, shown, day, c.new-machine.ensures) at c.part_text.ensures in
    rw c.in-Rotor.is (_, refl, made)

pub returns-in-Pin : goal.returns-in-Pin
returns-in-Pin c =
    let (internal, first, letters) = rw c.new-machine.ensures at c.pin_letters-letters.ensures.value in
    let made = rw (c.as_slice-in-Pin.ensures.value, letters) at c.part_text-in-Pin.ensures in
    rw c.in-Pin.is (_, (internal, first, refl), made)

pub pin_letters-letters-requires-clause-window : goal.pin_letters-letters-requires-clause-window
pin_letters-letters-requires-clause-window c =
    rw c.new-machine.ensures (has_internal _ c.in-Pin.keys _ (rw c.in-Pin.is at c.requires.suits)).0

pub pin_letters-letters-requires-clause-internal : goal.pin_letters-letters-requires-clause-internal
pin_letters-letters-requires-clause-internal c =
    rw c.new-machine.ensures (has_internal _ c.in-Pin.keys _ (rw c.in-Pin.is at c.requires.suits)).1

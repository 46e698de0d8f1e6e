use Rattle.kd_state.proofs.{Prelude.{pointwise_decides, ap, arith, sym, ◌∙◌}, Wheels.{all_tested, pin_letters_show}}
use Rattle.kd_state.specs.Entry.{values_of}
use Rattle.kd_state.proofs.machine.Machine.shows_window.Goals as goal

pub returns-in-Rotor-Rotor : goal.returns-in-Rotor-Rotor
returns-in-Rotor-Rotor c =
    let machine = sym c.parts.ensures.parts ∙ c.in-Rotor-Rotor.is-0 in
    let day = sym c.entry.ensures.value ∙ ap values_of c.in-Rotor-Rotor.is-1 in
    rw (machine, day) (all_tested _ _ _ _ c.have_letters.ensures c.as_slice.ensures.value)

pub returns-in-Pin-Pin : goal.returns-in-Pin-Pin
returns-in-Pin-Pin c = grind (arith, pin_letters_show, pointwise_decides)

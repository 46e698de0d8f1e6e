use Rattle.kd_state.specs.{declared.machine.parts.Parts.TheVariants.Rotor, Entry.{rotor_values, values_of}}
use Rattle.{kd_state.specs.SheetDay.Rotor, std.proofs.Common.{ap, arith, sym, ◌∙◌, ◌≡◌}}
use Rattle.kd_card.proofs.loose.count.loose_count.Goals as goal

pub returns-in-Rotor-Rotor-clause-value : goal.returns-in-Rotor-Rotor-clause-value
returns-in-Rotor-Rotor-clause-value c =
    let m = c.in-Rotor-Rotor.parts in
    let s = rotor_values c.in-Rotor-Rotor.entry in
    let machine : c.args.machine.now ≡ Rotor m = sym c.parts.ensures.parts ∙ c.in-Rotor-Rotor.is-0 in
    let day : c.args.day.now ≡ Rotor s = sym c.entry.ensures.value ∙ ap values_of c.in-Rotor-Rotor.is-1 in
    let wheels = c.as_slice-wheels.ensures.value in
    let slots = rw (c.as_slice.ensures.value, wheels) at c.loose_slots-slots.ensures.value in
    let rings = rw (machine, wheels) at c.loose_rings.ensures.value in
    let letters = rw (machine, wheels) at c.loose_letters.ensures.value in
    rw (machine, day) (grind (arith, slots, c.from-reflector.ensures, c.ne.ensures, rings, letters))

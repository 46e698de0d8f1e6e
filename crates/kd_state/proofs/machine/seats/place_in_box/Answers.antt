use Rattle.kd_state.proofs.{Prelude.{arith, sym, true, ◌∙◌}, Wheels.{found_in_box, same_tested}}
use Rattle.kd_state.proofs.machine.seats.place_in_box.Goals as goal

pub returns-then-eq : goal.returns-then-eq
returns-then-eq c =
    let here = same_tested c.args.wheel _ true (sym c.eq.ensures ∙ c.if-eq.true) in
    grind (arith, found_in_box c.args.model c.args.wheel c.loop-place.place, here)

use Rattle.kd_state.proofs.Prelude.{cable_in_order, get_or_default, Option, arith, ℕ}
use Rattle.std.proofs.lemmas.List.Edits.{map_over_more}
use Rattle.kd_state.proofs.machine.cable.put_in_order.Goals as goal

pub loop-cable-preserved : goal.loop-cable-preserved
loop-cable-preserved c =
    let ends : Option ℕ × Option ℕ → Option ℕ × Option ℕ = λ cable. cable_in_order cable.0 cable.1 in
    let more = map_over_more ends c.args.cables.now c.loop-cable.cables c.loop-cable.cable-index in
    grind (arith, more, get_or_default)

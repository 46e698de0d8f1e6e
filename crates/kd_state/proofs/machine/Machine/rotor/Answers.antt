use Rattle.kd_state.proofs.{Carrying.ordered_parts, Prelude.IsMachine, Prelude.subst, Prelude.sym}
use Rattle.kd_state.proofs.machine.Machine.rotor.Goals as goal

pub invariant_of-result : goal.invariant_of-result
invariant_of-result c =
    subst IsMachine (sym c.with_cables_in_order.ensures)
    (ordered_parts c.args.parts (c.is_legal.ensures.0 c.if-not-is_legal.false))

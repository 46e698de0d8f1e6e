use Rattle.kd_state.proofs.{Prelude.{arith}, Slots.seated_in_box}
use Rattle.kd_state.proofs.machine.rotor_parts.RotorParts.turn.Goals as goal

pub unwrap-place-requires : goal.unwrap-place-requires
unwrap-place-requires c =
    let m = c.args.self.now in
    let boxed = seated_in_box m.model m.slots c.args.slot c.in-Some-Some.wheel c.requires.seats.allowed in
    grind (arith, boxed)

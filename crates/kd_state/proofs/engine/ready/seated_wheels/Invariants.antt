use Rattle.kd_state.proofs.Prelude.{Some, ◌≡◌, map, take}
use Rattle.{arrayvec.specs.ArrayVec.array_vec_len, kd_state.specs.SeatedWheels.wheel_in_seat}
use Rattle.kd_state.proofs.engine.ready.seated_wheels.Given as goal

abbrev pub invariant-loop-seated : goal.invariant-loop-seated
invariant-loop-seated l = record {
  wheels : map Some l.wheels.items ≡ map (wheel_in_seat l.fn.parts) (take l.seated-index l.slots);
  len : array_vec_len l.wheels ≡ l.seated-index;
}

use Rattle.kd_state.proofs.Prelude.{Contains, IsSeatedAt, wheels_for, Wheel, ℕ, ◌+◌, ◌<◌}
use Rattle.kd_state.proofs.machine.seats.are_allowed.Given as goal

abbrev pub invariant-loop-place : goal.invariant-loop-place
invariant-loop-place l =
    (place : ℕ) (wheel : Wheel) → place < l.place → IsSeatedAt l.slots place wheel
    → Contains (wheels_for l.model (place + 1)) wheel

use Rattle.kd_state.proofs.Prelude.{IsSeatedAt, Wheel, ℕ, ◌<◌, ◌≡◌}
use Rattle.kd_state.proofs.machine.seats.are_seated_once.Given as goal

abbrev pub invariant-loop-place : goal.invariant-loop-place
invariant-loop-place l =
    (place other : ℕ) (wheel : Wheel) → place < l.place → IsSeatedAt l.slots place wheel
    → IsSeatedAt l.slots other wheel
    → other ≡ place

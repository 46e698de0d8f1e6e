use Rattle.kd_state.proofs.Prelude.{IsSeatedAt, Wheel, Some, ℕ, ◌<◌, ◌≡◌}
use Rattle.kd_state.proofs.machine.seats.is_alone.Given as goal

abbrev pub invariant-loop-other : goal.invariant-loop-other
invariant-loop-other l =
    (other : ℕ) (wheel : Wheel) → other < l.other → l.seated ≡ Some wheel → IsSeatedAt l.slots other wheel
    → other ≡ l.fn.place

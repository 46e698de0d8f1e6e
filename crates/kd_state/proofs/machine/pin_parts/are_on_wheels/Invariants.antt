use Rattle.kd_state.proofs.Prelude.{numbered_item, ring_of, Contains, Some, ℕ, ◌≡◌, ◌≤◌}
use Rattle.kd_state.proofs.machine.pin_parts.are_on_wheels.Given as goal

abbrev pub invariant-loop-place : goal.invariant-loop-place
invariant-loop-place l =
    (wheel letter : ℕ) → wheel ≤ l.place → numbered_item l.letters wheel ≡ Some letter → Contains (ring_of wheel) letter

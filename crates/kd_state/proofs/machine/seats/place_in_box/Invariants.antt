use Rattle.kd_state.proofs.Prelude.{same_wheel, I, false, get_or, ℕ, ◌<◌, ◌≡◌}
use Rattle.kd_state.proofs.machine.seats.place_in_box.Given as goal

abbrev pub invariant-loop-place : goal.invariant-loop-place
invariant-loop-place l = (place : ℕ) → place < l.place → same_wheel l.wheel (get_or l.other-items place I) ≡ false

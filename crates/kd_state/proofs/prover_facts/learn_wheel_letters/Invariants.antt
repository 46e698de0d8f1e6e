use Rattle.kd_state.proofs.Prelude.{HasWheelLetters, AllWithin}
use Rattle.kd_state.proofs.prover_facts.learn_wheel_letters.Given as goal

abbrev pub invariant-loop-wheel : goal.invariant-loop-wheel
invariant-loop-wheel l = AllWithin HasWheelLetters l.wheels 0 l.wheel-index

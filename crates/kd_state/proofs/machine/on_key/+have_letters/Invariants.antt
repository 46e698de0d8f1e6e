use Rattle.kd_state.proofs.Prelude.{length}
use Rattle.kd_state.proofs.machine.on_key.+have_letters.Given as goal

abbrev pub decreases-have_letters : goal.decreases-have_letters
decreases-have_letters l = length l.wheels.now

use Rattle.kd_state.proofs.Prelude.{length}
use Rattle.kd_state.proofs.machine.on_key.+have_rings.Given as goal

abbrev pub decreases-have_rings : goal.decreases-have_rings
decreases-have_rings l = length l.wheels.now

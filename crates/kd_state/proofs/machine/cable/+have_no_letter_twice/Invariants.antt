use Rattle.kd_state.proofs.Prelude.{length}
use Rattle.kd_state.proofs.machine.cable.+have_no_letter_twice.Given as goal

abbrev pub decreases-have_no_letter_twice : goal.decreases-have_no_letter_twice
decreases-have_no_letter_twice l = length l.cables.now

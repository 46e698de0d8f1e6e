use Rattle.kd_desk.proofs.Prelude.{length}
use Rattle.kd_desk.proofs.laws.+months_can_be_written.Given as goal

abbrev pub decreases-months_can_be_written : goal.decreases-months_can_be_written
decreases-months_can_be_written l = length l.numbers.now

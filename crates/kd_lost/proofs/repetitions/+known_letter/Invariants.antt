use Rattle.std.proofs.Common.{length}
use Rattle.kd_lost.proofs.repetitions.+known_letter.Given as goal

abbrev pub decreases-known_letter : goal.decreases-known_letter
decreases-known_letter l = length l.copies.now

use Rattle.std.proofs.Common.{length}
use Rattle.kd_lost.proofs.heading_line.+fitting_signs.Given as goal

abbrev pub decreases-fitting_signs : goal.decreases-fitting_signs
decreases-fitting_signs l = length l.word.now

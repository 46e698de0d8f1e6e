use Rattle.std.proofs.Common.{length}
use Rattle.kd_lost.proofs.heading_line.+right_signs.Given as goal

abbrev pub decreases-right_signs : goal.decreases-right_signs
decreases-right_signs l = length l.word.now

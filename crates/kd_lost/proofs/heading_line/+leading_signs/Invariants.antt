use Rattle.std.proofs.Common.{length}
use Rattle.kd_lost.proofs.heading_line.+leading_signs.Given as goal

abbrev pub decreases-leading_signs : goal.decreases-leading_signs
decreases-leading_signs l = length l.bytes.now

use Rattle.std.proofs.Common.{length}
use Rattle.kd_lost.proofs.shown_parts.+total_of.Given as goal

abbrev pub decreases-total_of : goal.decreases-total_of
decreases-total_of l = length l.parts.now

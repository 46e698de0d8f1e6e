use Rattle.std.proofs.Common.{length}
use Rattle.kd_lost.proofs.warnings.+is_lost_in_both.Given as goal

abbrev pub decreases-is_lost_in_both : goal.decreases-is_lost_in_both
decreases-is_lost_in_both l = length l.start.now

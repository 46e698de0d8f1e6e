use Rattle.std.proofs.Common.{length}
use Rattle.kd_lost.proofs.shown_parts.+shown_under.Given as goal

abbrev pub decreases-shown_under : goal.decreases-shown_under
decreases-shown_under l = length l.parts.now

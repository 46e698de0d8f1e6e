use Rattle.std.proofs.Common.{length}
use Rattle.kd_lost.proofs.body.+push_covered.Given as goal

abbrev pub decreases-push_covered : goal.decreases-push_covered
decreases-push_covered l = length l.received.now

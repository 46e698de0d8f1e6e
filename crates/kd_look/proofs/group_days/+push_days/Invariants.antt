use Rattle.std.proofs.Common.{length}
use Rattle.kd_look.proofs.group_days.+push_days.Given as goal

abbrev pub decreases-push_days : goal.decreases-push_days
decreases-push_days l = length l.days.now

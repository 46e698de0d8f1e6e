use Rattle.std.proofs.Common.{length}
use Rattle.kd_look.proofs.missing_days.+push_no_days.Given as goal

abbrev pub decreases-push_no_days : goal.decreases-push_no_days
decreases-push_no_days l = length l.files.now

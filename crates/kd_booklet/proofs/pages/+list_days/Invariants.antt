use Rattle.std.proofs.Common.{length}
use Rattle.kd_booklet.proofs.pages.+list_days.Given as goal

abbrev pub decreases-list_days : goal.decreases-list_days
decreases-list_days l = length l.plans.now

use Rattle.std.proofs.Common.{length}
use Rattle.kd_booklet.proofs.pages.+draw_plans.Given as goal

abbrev pub decreases-draw_plans : goal.decreases-draw_plans
decreases-draw_plans g l = length l.plans.now

use Rattle.std.proofs.Common.{length}
use Rattle.kd_booklet.proofs.chain.+add_plans.Given as goal

abbrev pub decreases-add_plans : goal.decreases-add_plans
decreases-add_plans l = length l.numbers.now

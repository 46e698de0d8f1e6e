use Rattle.std.proofs.Common.{length}
use Rattle.kd_booklet.proofs.stages.+push_stage.Given as goal

abbrev pub decreases-push_stage : goal.decreases-push_stage
decreases-push_stage l = length l.settings.now

use Rattle.std.proofs.Common.{length}
use Rattle.kd_language.proofs.template.+push_filled.Given as goal

abbrev pub decreases-push_filled : goal.decreases-push_filled
decreases-push_filled l = length l.values.now

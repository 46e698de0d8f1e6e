use Rattle.std.proofs.Common.{length}
use Rattle.kd_look.proofs.message.groups.+push_numbered.Given as goal

abbrev pub decreases-push_numbered : goal.decreases-push_numbered
decreases-push_numbered l = length l.groups.now

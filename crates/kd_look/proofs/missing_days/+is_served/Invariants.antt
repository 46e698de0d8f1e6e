use Rattle.std.proofs.Common.{length}
use Rattle.kd_look.proofs.missing_days.+is_served.Given as goal

abbrev pub decreases-is_served : goal.decreases-is_served
decreases-is_served l = length l.files.now

use Rattle.std.proofs.Common.{length}
use Rattle.kd_slips.proofs.near_names.+alike_at_start.Given as goal

abbrev pub decreases-alike_at_start : goal.decreases-alike_at_start
decreases-alike_at_start l = length l.name.now

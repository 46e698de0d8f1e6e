use Rattle.std.proofs.Common.{length}
use Rattle.kd_slips.proofs.near_names.+alike_at_end.Given as goal

abbrev pub decreases-alike_at_end : goal.decreases-alike_at_end
decreases-alike_at_end l = length l.name.now

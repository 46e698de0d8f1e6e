use Rattle.std.proofs.Common.{length}
use Rattle.kd_slips.proofs.counts.+is_topped.Given as goal

abbrev pub decreases-is_topped : goal.decreases-is_topped
decreases-is_topped l = length l.days.now

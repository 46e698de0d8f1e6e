use Rattle.std.proofs.Common.{length}
use Rattle.kd_lost.proofs.shown_parts.+is_any_read.Given as goal

abbrev pub decreases-is_any_read : goal.decreases-is_any_read
decreases-is_any_read l = length l.parts.now

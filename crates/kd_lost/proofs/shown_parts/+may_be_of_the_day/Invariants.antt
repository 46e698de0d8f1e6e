use Rattle.std.proofs.Common.{length}
use Rattle.kd_lost.proofs.shown_parts.+may_be_of_the_day.Given as goal

abbrev pub decreases-may_be_of_the_day : goal.decreases-may_be_of_the_day
decreases-may_be_of_the_day l = length l.parts.now

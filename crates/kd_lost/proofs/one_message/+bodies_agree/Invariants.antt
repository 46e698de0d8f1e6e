use Rattle.std.proofs.Common.{length}
use Rattle.kd_lost.proofs.one_message.+bodies_agree.Given as goal

abbrev pub decreases-bodies_agree : goal.decreases-bodies_agree
decreases-bodies_agree l = length l.one.now

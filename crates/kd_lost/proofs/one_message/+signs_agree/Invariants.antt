use Rattle.std.proofs.Common.{length}
use Rattle.kd_lost.proofs.one_message.+signs_agree.Given as goal

abbrev pub decreases-signs_agree : goal.decreases-signs_agree
decreases-signs_agree l = length l.one.now

use Rattle.std.proofs.Common.{length}
use Rattle.kd_lost.proofs.one_message.+same_letters.Given as goal

abbrev pub decreases-same_letters : goal.decreases-same_letters
decreases-same_letters l = length l.one.now

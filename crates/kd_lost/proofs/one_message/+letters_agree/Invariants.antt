use Rattle.std.proofs.Common.{length}
use Rattle.kd_lost.proofs.one_message.+letters_agree.Given as goal

abbrev pub decreases-letters_agree : goal.decreases-letters_agree
decreases-letters_agree l = length l.one.now

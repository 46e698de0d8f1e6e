use Rattle.std.proofs.Common.{length}
use Rattle.kd_message.proofs.groups.+has_lost.Given as goal

abbrev pub decreases-has_lost : goal.decreases-has_lost
decreases-has_lost l = length l.letters.now

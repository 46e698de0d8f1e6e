use Rattle.std.proofs.Common.{length}
use Rattle.kd_look.proofs.values.+push_letters.Given as goal

abbrev pub decreases-push_letters : goal.decreases-push_letters
decreases-push_letters l = length l.letters.now

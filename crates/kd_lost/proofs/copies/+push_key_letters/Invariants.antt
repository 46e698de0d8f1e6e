use Rattle.std.proofs.Common.{length}
use Rattle.kd_lost.proofs.copies.+push_key_letters.Given as goal

abbrev pub decreases-push_key_letters : goal.decreases-push_key_letters
decreases-push_key_letters l = length l.start.now

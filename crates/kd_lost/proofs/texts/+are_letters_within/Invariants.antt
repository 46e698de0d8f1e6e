use Rattle.std.proofs.Common.{length}
use Rattle.kd_lost.proofs.texts.+are_letters_within.Given as goal

abbrev pub decreases-are_letters_within : goal.decreases-are_letters_within
decreases-are_letters_within l = length l.one.now

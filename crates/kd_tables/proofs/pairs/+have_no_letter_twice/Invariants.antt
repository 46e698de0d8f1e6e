use Rattle.std.proofs.Common.{length}
use Rattle.kd_tables.proofs.pairs.+have_no_letter_twice.Given as goal

abbrev pub decreases-have_no_letter_twice : goal.decreases-have_no_letter_twice
decreases-have_no_letter_twice l = length l.pairs.now

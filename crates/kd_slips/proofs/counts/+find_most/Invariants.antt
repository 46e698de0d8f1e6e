use Rattle.std.proofs.Common.{length}
use Rattle.kd_slips.proofs.counts.+find_most.Given as goal

abbrev pub decreases-find_most : goal.decreases-find_most
decreases-find_most l = length l.rest.now

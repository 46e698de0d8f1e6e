use Rattle.std.proofs.Common.{length}
use Rattle.kd_lost.proofs.warnings.+completes.Given as goal

abbrev pub decreases-completes : goal.decreases-completes
decreases-completes l = length l.received.now

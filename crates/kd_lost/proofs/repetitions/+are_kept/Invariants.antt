use Rattle.std.proofs.Common.{length}
use Rattle.kd_lost.proofs.repetitions.+are_kept.Given as goal

abbrev pub decreases-are_kept : goal.decreases-are_kept
decreases-are_kept l = length l.alone.now

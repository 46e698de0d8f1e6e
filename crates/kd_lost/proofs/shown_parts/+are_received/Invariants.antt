use Rattle.std.proofs.Common.{length}
use Rattle.kd_lost.proofs.shown_parts.+are_received.Given as goal

abbrev pub decreases-are_received : goal.decreases-are_received
decreases-are_received l = length l.letters.now

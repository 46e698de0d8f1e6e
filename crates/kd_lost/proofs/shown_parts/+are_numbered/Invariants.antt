use Rattle.std.proofs.Common.{length}
use Rattle.kd_lost.proofs.shown_parts.+are_numbered.Given as goal

abbrev pub decreases-are_numbered : goal.decreases-are_numbered
decreases-are_numbered l = length l.parts.now

use Rattle.std.proofs.Common.{length}
use Rattle.kd_lost.proofs.shown_parts.+are_in_order.Given as goal

abbrev pub decreases-are_in_order : goal.decreases-are_in_order
decreases-are_in_order l = length l.parts.now

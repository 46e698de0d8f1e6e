use Rattle.std.proofs.Common.{length}
use Rattle.kd_card.proofs.kinds.+are_kinds.Given as goal

abbrev pub decreases-are_kinds : goal.decreases-are_kinds
decreases-are_kinds g l = length l.kinds.now

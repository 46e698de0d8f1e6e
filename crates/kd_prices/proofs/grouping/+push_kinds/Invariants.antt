use Rattle.kd_prices.proofs.Prelude.{length}
use Rattle.kd_prices.proofs.grouping.+push_kinds.Given as goal

abbrev pub decreases-push_kinds : goal.decreases-push_kinds
decreases-push_kinds g l = length l.pairs.now

use Rattle.kd_prices.proofs.Prelude.{length}
use Rattle.kd_prices.proofs.kind_prices.+take_one.Given as goal

abbrev pub decreases-take_one : goal.decreases-take_one
decreases-take_one g l = length l.kinds.now

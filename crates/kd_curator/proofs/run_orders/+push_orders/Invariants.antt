use Rattle.std.proofs.Common.{length}
use Rattle.kd_curator.proofs.run_orders.+push_orders.Given as goal

abbrev pub decreases-push_orders : goal.decreases-push_orders
decreases-push_orders l = length l.names.now

use Rattle.std.proofs.Common.{length}
use Rattle.kd_message.proofs.booklet.+check_orders.Given as goal

abbrev pub decreases-check_orders : goal.decreases-check_orders
decreases-check_orders l = length l.orders.now

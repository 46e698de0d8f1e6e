use Rattle.std.proofs.Common.{length}
use Rattle.kd_message.proofs.booklet.+draw_listed_orders.Given as goal

abbrev pub decreases-draw_listed_orders : goal.decreases-draw_listed_orders
decreases-draw_listed_orders g l = length l.orders.now

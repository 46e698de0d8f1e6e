use Rattle.std.proofs.Common.{length}
use Rattle.kd_message.proofs.booklet.+draw_order_pages.Given as goal

abbrev pub decreases-draw_order_pages : goal.decreases-draw_order_pages
decreases-draw_order_pages g l = length l.orders.now

use Rattle.std.proofs.Common.{length}
use Rattle.kd_page.proofs.windows.+draw_window_boxes.Given as goal

abbrev pub decreases-draw_window_boxes : goal.decreases-draw_window_boxes
decreases-draw_window_boxes g l = length l.slots.now

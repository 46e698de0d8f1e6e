use Rattle.std.proofs.Common.{length}
use Rattle.kd_page.proofs.boxes.+draw_boxes_of.Given as goal

abbrev pub decreases-draw_boxes_of : goal.decreases-draw_boxes_of
decreases-draw_boxes_of g l = length l.settings.now

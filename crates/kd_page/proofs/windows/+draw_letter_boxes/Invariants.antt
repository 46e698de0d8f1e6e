use Rattle.std.proofs.Common.{length}
use Rattle.kd_page.proofs.windows.+draw_letter_boxes.Given as goal

abbrev pub decreases-draw_letter_boxes : goal.decreases-draw_letter_boxes
decreases-draw_letter_boxes g l = length l.wheels.now

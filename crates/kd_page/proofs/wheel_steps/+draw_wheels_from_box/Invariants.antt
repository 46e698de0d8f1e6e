use Rattle.std.proofs.Common.{length}
use Rattle.kd_page.proofs.wheel_steps.+draw_wheels_from_box.Given as goal

abbrev pub decreases-draw_wheels_from_box : goal.decreases-draw_wheels_from_box
decreases-draw_wheels_from_box g l = length l.slots.now

use Rattle.std.proofs.Common.{length}
use Rattle.kd_page.proofs.wheel_steps.+draw_boxed_wheels.Given as goal

abbrev pub decreases-draw_boxed_wheels : goal.decreases-draw_boxed_wheels
decreases-draw_boxed_wheels g l = length l.slots.now

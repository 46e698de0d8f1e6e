use Rattle.std.proofs.Common.{length}
use Rattle.kd_page.proofs.pins.+draw_pin_wheels.Given as goal

abbrev pub decreases-draw_pin_wheels : goal.decreases-draw_pin_wheels
decreases-draw_pin_wheels g l = length l.wheels.now

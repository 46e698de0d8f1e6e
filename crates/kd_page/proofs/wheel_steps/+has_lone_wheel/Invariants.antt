use Rattle.std.proofs.Common.{length}
use Rattle.kd_page.proofs.wheel_steps.+has_lone_wheel.Given as goal

abbrev pub decreases-has_lone_wheel : goal.decreases-has_lone_wheel
decreases-has_lone_wheel l = length l.slots.now

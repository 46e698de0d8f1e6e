use Rattle.std.proofs.Common.{length}
use Rattle.kd_card.proofs.loose.pin.+push_wheel_pins.Given as goal

abbrev pub decreases-push_wheel_pins : goal.decreases-push_wheel_pins
decreases-push_wheel_pins l = length l.ring.now

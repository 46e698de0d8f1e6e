use Rattle.std.proofs.Common.{length}
use Rattle.kd_pictures.proofs.wheels.+draw_slots.Given as goal

abbrev pub decreases-draw_slots : goal.decreases-draw_slots
decreases-draw_slots g l = length l.slots.now

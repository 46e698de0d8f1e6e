use Rattle.std.proofs.Common.{length}
use Rattle.kd_card.proofs.loose.rotor.+push_seats.Given as goal

abbrev pub decreases-push_seats : goal.decreases-push_seats
decreases-push_seats l = length l.slots.now

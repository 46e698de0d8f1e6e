use Rattle.std.proofs.Common.{length}
use Rattle.kd_card.proofs.loose.rotor.+push_rings.Given as goal

abbrev pub decreases-push_rings : goal.decreases-push_rings
decreases-push_rings l = length l.boxed.now

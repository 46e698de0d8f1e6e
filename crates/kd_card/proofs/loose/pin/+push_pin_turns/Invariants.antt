use Rattle.std.proofs.Common.{length}
use Rattle.kd_card.proofs.loose.pin.+push_pin_turns.Given as goal

abbrev pub decreases-push_pin_turns : goal.decreases-push_pin_turns
decreases-push_pin_turns l = length l.letters.now

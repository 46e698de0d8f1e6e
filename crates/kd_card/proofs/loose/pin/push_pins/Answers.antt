use Rattle.kd_card.proofs.OneCard.{arith, append-nil, append_assoc}
use Rattle.kd_card.proofs.loose.pin.push_pins.Goals as goal

pub returns-clause-items : goal.returns-clause-items
returns-clause-items c = grind (arith, append_assoc, append-nil)

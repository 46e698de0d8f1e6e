use Rattle.kd_card.proofs.Leading.{loose_things_are_counted}
use Rattle.std.proofs.Common.{arith}
use Rattle.kd_card.proofs.laws.loose_things_are_counted.Goals as goal

pub returns : goal.returns
returns c = grind (arith, loose_things_are_counted)

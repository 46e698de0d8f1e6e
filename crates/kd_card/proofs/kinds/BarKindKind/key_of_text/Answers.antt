use Rattle.kd_card.proofs.OneCard.{one_standing}
use Rattle.std.proofs.Common.{arith}
use Rattle.kd_card.proofs.kinds.BarKindKind.key_of_text.Goals as goal

pub returns : goal.returns
returns c = grind (arith, one_standing)

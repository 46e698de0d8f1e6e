use Rattle.kd_card.proofs.OneCard.{arith, no_count}
use Rattle.kd_card.proofs.kind_text.kind_of_parts.Goals as goal

pub returns : goal.returns
returns g c = grind (arith, no_count)

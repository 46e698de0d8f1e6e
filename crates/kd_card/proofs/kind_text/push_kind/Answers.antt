use Rattle.kd_card.proofs.OneCard.{arith, line_in_pieces, written_price}
use Rattle.kd_card.proofs.kind_text.push_kind.Goals as goal

pub returns-clause-bytes : goal.returns-clause-bytes
returns-clause-bytes g c = grind (arith, line_in_pieces, written_price)

use Rattle.kd_card.proofs.OneCard.{arith, words_in_place}
use Rattle.kd_card.proofs.kind_text.kind_of_list.Goals as goal

pub returns : goal.returns
returns g c = grind (arith, words_in_place)

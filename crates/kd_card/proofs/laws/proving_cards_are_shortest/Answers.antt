use Rattle.kd_card.proofs.Months.{rules, proving_cards_are_shortest}
use Rattle.kd_card.proofs.laws.proving_cards_are_shortest.Goals as goal

pub returns : goal.returns
returns c = search (rules, proving_cards_are_shortest)

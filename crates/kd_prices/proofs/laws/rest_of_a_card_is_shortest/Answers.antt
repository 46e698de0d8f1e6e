use Rattle.kd_prices.proofs.Leading.{rest_is_shortest}
use Rattle.kd_prices.proofs.laws.rest_of_a_card_is_shortest.Goals as goal

pub returns : goal.returns
returns c = rest_is_shortest

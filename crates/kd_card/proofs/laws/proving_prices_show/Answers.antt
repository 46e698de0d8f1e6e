use Rattle.kd_card.proofs.Showing.{proving_prices_show}
use Rattle.kd_card.proofs.laws.proving_prices_show.Goals as goal

pub returns : goal.returns
returns c = proving_prices_show

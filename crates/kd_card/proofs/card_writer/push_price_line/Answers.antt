use Rattle.std.proofs.lemmas.Grind.{common_steps}
use Rattle.kd_card.proofs.OneCard.{all_prices, arith, take_all}
use Rattle.kd_card.proofs.card_writer.push_price_line.Goals as goal

pub returns-clause-bytes : goal.returns-clause-bytes
returns-clause-bytes g c = grind (arith, all_prices, take_all)

pub loop-price-preserved : goal.loop-price-preserved
loop-price-preserved g c = grind (arith, common_steps)

use Rattle.std.proofs.lemmas.Grind.{common_steps}
use Rattle.kd_card.proofs.OneCard.{arith, not_at}
use Rattle.kd_card.proofs.price_text.prices_of_words.Goals as goal

pub returns-in_err-price_of_text : goal.returns-in_err-price_of_text
returns-in_err-price_of_text g c =
    rw c.from_residual.ensures (not_at c.args.words.now c.loop-word.word-index _ (omega arith)
    (λ price. c.in_err-price_of_text.ensures price.0 price.1 price.2))

pub returns : goal.returns
returns g c = grind (arith, common_steps)

pub loop-word-preserved : goal.loop-word-preserved
loop-word-preserved g c = grind (arith, common_steps)

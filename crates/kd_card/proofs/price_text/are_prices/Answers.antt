use Rattle.kd_card.proofs.OneCard.{arith, eqb, IsPriceText, rules, tells_price}
use Rattle.std.proofs.lemmas.Iterator.{cases_from_all, Search.true_from_All, Splits.YieldsList-from_slice_split}
use borrow.Author.Tests.{tests}
use Rattle.kd_card.proofs.price_text.are_prices.Goals as goal

pub returns : goal.returns
returns c =
    let cases = cases_from_all _ _ c.all.result IsPriceText (λ word. ¬ (IsPriceText word)) c.all.ensures.ran
    (YieldsList-from_slice_split _ (λ b. eqb b 32) c.args.text.now c.split.ensures.rest c.split.ensures.done
    c.split.ensures.closure (λ x b q k. search (rules, tests)))
    (λ x q k. search (rules, tests, tells_price)) (λ x q k. search (rules, tests, tells_price)) in (
      λ yes k d inside. (rw yes at cases) k d (omega arith) inside,
      λ all. true_from_All IsPriceText (λ word. ¬ (IsPriceText word)) _ _ (λ x is none. none is) cases all,
    )

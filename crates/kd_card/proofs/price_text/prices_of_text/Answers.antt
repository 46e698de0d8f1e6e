use Rattle.kd_card.proofs.OneCard.{◌∙◌, Bor, List, ℕ, map, ap, sym, arith, rules, count_settled, no_prices, too_many}
use Rattle.kd_card.proofs.price_text.prices_of_text.Goals as goal

pub returns-in-Some-prices_of_words : goal.returns-in-Some-prices_of_words
returns-in-Some-prices_of_words g c =
    let texts = ap (map (λ (word : Bor (List ℕ)). word.now)) c.as_slice.ensures.value ∙ c.in-Some.ensures in
    let prices = c.in-Some-prices_of_words.ensures in
    count_settled _ c.args.line c.in-Some-prices_of_words.prices.items (sym texts ∙ prices.0) prices.1 c.ok_or.result
    (grind arith)

pub returns-in-None-prices_of_words : goal.returns-in-None-prices_of_words
returns-in-None-prices_of_words g c =
    let texts = ap (map (λ (word : Bor (List ℕ)). word.now)) c.as_slice.ensures.value ∙ c.in-Some.ensures in
    rw (← texts) (no_prices _ c.args.line c.in-None-prices_of_words.ensures)

pub returns-in-None : goal.returns-in-None
returns-in-None g c =
    too_many _ c.args.line (c.are_prices.ensures.0 c.if-are_prices.true) (omega (arith, c.in-None.ensures))

pub returns-in-None-2 : goal.returns-in-None-2
returns-in-None-2 g c = search (rules, no_prices, c.are_prices.ensures.1)

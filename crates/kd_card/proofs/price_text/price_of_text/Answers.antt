use Rattle.kd_card.proofs.OneCard.{arith, not_utf8, ok_part, parse-price, written_price, sym, ◌∙◌}
use Rattle.kd_card.proofs.price_text.price_of_text.Goals as goal
use Rattle.kd_card.proofs.price_text.price_of_text.Goals.{then-unsigned_abs-le9999, else-unsigned_abs-le9999}

pub returns-in_err-ok : goal.returns-in_err-ok
returns-in_err-ok c =
    rw c.from_residual.ensures
    (not_utf8 c.args.text.now c.from_utf8.result _ _ c.from_utf8.ensures.cases
    (sym c.ok.ensures.value ∙ c.in_err-ok.was))

pub returns-in_err-price : goal.returns-in_err-price
returns-in_err-price c =
    let text = ok_part c.from_utf8.result c.in_ok-ok.field-0 _ _ c.from_utf8.ensures.cases c.in_ok-ok.ensures.value in
    let none = sym c.ok-2.ensures.value ∙ c.in_err-price.was in
    grind (arith, none, parse-price c.args.text.now c.parse.result (rw text.0 at c.parse.ensures.value.0))

pub returns : goal.returns
returns c =
    let text = ok_part c.from_utf8.result c.in_ok-ok.field-0 _ _ c.from_utf8.ensures.cases c.in_ok-ok.ensures.value in
    let parsed = sym c.ok-2.ensures.value ∙ c.in_ok-price.was in
    let only = parse-price c.args.text.now c.parse.result (rw text.0 at c.parse.ensures.value.0) in
    grind (arith, parsed, only, written_price c.format.result.now c.in_ok-price.price)

use Rattle.kd_card.proofs.OneCard.{ap, day_unbroken, decimal, head_text, same_values, sym, ◌++◌, ◌∙◌, ◌∷◌}
use Rattle.kd_card.proofs.card_reader.read_day.Goals as goal

pub returns-in_err-day : goal.returns-in_err-day
returns-in_err-day c =
    rw c.from_residual.ensures (λ day rest head. c.in_err-day.ensures (decimal day) rest
    (day_unbroken day head.of_month) (head.text ∙ sym (head_text c.args.version day rest c.head_prefix.ensures.value)))

pub returns-in_err-day_of_text : goal.returns-in_err-day_of_text
returns-in_err-day_of_text c =
    rw c.from_residual-in_err-day_of_text.ensures (λ day rest head.
    c.in_err-day_of_text.ensures day head.of_month
    (same_values c.head_prefix.result.now (day_unbroken day head.of_month) c.in_ok-day.ensures.1
    (head.text ∙ sym (head_text c.args.version day rest c.head_prefix.ensures.value)) c.in_ok-day.ensures.0).0)

pub returns : goal.returns
returns c =
    let day = c.in_ok-day_of_text.field-0 in
    let rest = c.in_ok-day.rest.now in
    let text = ap (λ d. c.head_prefix.result.now ++ d ++ 10 ∷ rest) (sym c.in_ok-day_of_text.ensures.0) in
    record {
      text = c.in_ok-day.ensures.0 ∙ text ∙ head_text c.args.version day rest c.head_prefix.ensures.value;
      of_month = c.in_ok-day_of_text.ensures.1;
    }

use Rattle.kd_card.proofs.OneCard.{nil_from_length, nonempty-by_length, refl, sym, Trailing, GoesOn, HasFault, ◌∙◌}
use Rattle.kd_card.proofs.OneCard.{MatchResult-err}
use Rattle.std.proofs.lemmas.Bool.{eqb-true}
use Rattle.kd_card.proofs.card_reader.read_rest.Goals as goal

pub returns-in_err-rest : goal.returns-in_err-rest
returns-in_err-rest c =
    MatchResult-err _ _ _ _ c.from_residual.ensures.1 (λ day settings. HasFault _ c.in_err-rest.ensures refl)

pub returns-in_err-prices : goal.returns-in_err-prices
returns-in_err-prices c =
    MatchResult-err _ _ _ _ c.from_residual-in_err-prices.ensures.1
    (λ day settings. GoesOn _ c.in_ok-rest.ensures (HasFault _ c.in_err-prices.ensures refl))

pub returns-in_err-rest-2 : goal.returns-in_err-rest-2
returns-in_err-rest-2 c =
    MatchResult-err _ _ _ _ c.from_residual-in_err-rest-2.ensures.1
    (λ day settings. GoesOn _ c.in_ok-rest.ensures (GoesOn _ c.in_ok-prices.ensures
    (HasFault _ (rw c.line_count.ensures.value at c.in_err-rest-2.ensures) refl)))

pub returns-then-is_empty : goal.returns-then-is_empty
returns-then-is_empty c = λ day settings.
    GoesOn _ c.in_ok-rest.ensures (GoesOn _ c.in_ok-prices.ensures
    (GoesOn c.in_ok-rest-2.rest.now (rw c.line_count.ensures.value at c.in_ok-rest-2.ensures)
    (GoesOn tt (nil_from_length c.in_ok-rest-2.rest.now
    (eqb-true _ 0 (sym c.is_empty.ensures ∙ c.if-is_empty.true))) refl)))

pub returns-else-is_empty : goal.returns-else-is_empty
returns-else-is_empty c = λ day settings.
    GoesOn _ c.in_ok-rest.ensures (GoesOn _ c.in_ok-prices.ensures
    (GoesOn c.in_ok-rest-2.rest.now (rw c.line_count.ensures.value at c.in_ok-rest-2.ensures)
    (HasFault Trailing ((λ same. nonempty-by_length c.is_empty.ensures c.if-is_empty.false), refl) refl)))

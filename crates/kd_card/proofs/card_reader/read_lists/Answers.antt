use Rattle.kd_card.proofs.OneCard.{refl, HasFault, GoesOn, MatchResult-err, line_failed, line_read}
use Rattle.kd_card.proofs.card_reader.read_lists.Goals as goal

pub returns-in_err-prices : goal.returns-in_err-prices
returns-in_err-prices g c =
    MatchResult-err _ _ _ _ c.from_residual.ensures.1
    (HasFault _ (c.in_err-prices.ensures g.row.N c.requires.some) refl)

pub returns-in_err-rows : goal.returns-in_err-rows
returns-in_err-rows g c =
    MatchResult-err _ _ _ _ c.from_residual-in_err-rows.ensures.1
    (HasFault _ (line_failed c.in_ok-prices.ensures c.in_err-rows.ensures) refl)

pub returns-in_err-prices-2 : goal.returns-in_err-prices-2
returns-in_err-prices-2 g c =
    MatchResult-err _ _ _ _ c.from_residual-in_err-prices-2.ensures.1
    (GoesOn _ (line_read c.in_ok-prices.ensures c.in_ok-rows.ensures)
    (HasFault _ (c.in_err-prices-2.ensures g.row.N c.requires.some) refl))

pub returns-in_err-columns : goal.returns-in_err-columns
returns-in_err-columns g c =
    MatchResult-err _ _ _ _ c.from_residual-in_err-columns.ensures.1
    (GoesOn _ (line_read c.in_ok-prices.ensures c.in_ok-rows.ensures)
    (HasFault _ (line_failed c.in_ok-prices-2.ensures c.in_err-columns.ensures) refl))

pub returns : goal.returns
returns g c =
    GoesOn _ (line_read c.in_ok-prices.ensures c.in_ok-rows.ensures)
    (GoesOn _ (line_read c.in_ok-prices-2.ensures c.in_ok-columns.ensures) refl)

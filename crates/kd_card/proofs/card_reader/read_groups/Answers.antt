use Rattle.kd_card.proofs.OneCard.{refl, HasFault, GoesOn, MatchResult-err}
use Rattle.kd_card.proofs.card_reader.read_groups.Goals as goal

pub returns-in_err-rows : goal.returns-in_err-rows
returns-in_err-rows g c = MatchResult-err _ _ _ _ c.from_residual.ensures.1 (HasFault _ c.in_err-rows.ensures refl)

pub returns-in_err-columns : goal.returns-in_err-columns
returns-in_err-columns g c =
    MatchResult-err _ _ _ _ c.from_residual-in_err-columns.ensures.1
    (GoesOn _ c.in_ok-rows.ensures (HasFault _ (rw c.len.ensures.value at c.in_err-columns.ensures) refl))

pub returns : goal.returns
returns g c = GoesOn _ c.in_ok-rows.ensures (GoesOn _ (rw c.len.ensures.value at c.in_ok-columns.ensures) refl)

use Rattle.kd_card.proofs.OneCard.{GoesOn, HasFault, MatchResult-err, refl}
use Rattle.kd_card.proofs.card_reader.read_kind_prices.Goals as goal

pub returns-in_err-cables-in-Cables : goal.returns-in_err-cables-in-Cables
returns-in_err-cables-in-Cables c =
    MatchResult-err _ _ _ _ c.from_residual.ensures.1
    (rw c.in-Cables.is (HasFault _ c.in_err-cables-in-Cables.ensures refl))

pub returns-in_err-bars-in-Bars : goal.returns-in_err-bars-in-Bars
returns-in_err-bars-in-Bars c =
    MatchResult-err _ _ _ _ c.from_residual-in_err-bars-in-Bars.ensures.1
    (rw c.in-Bars.is (HasFault _ c.in_err-bars-in-Bars.ensures refl))

pub returns-in_ok-cables-in-Cables : goal.returns-in_ok-cables-in-Cables
returns-in_ok-cables-in-Cables c = rw c.in-Cables.is (GoesOn _ c.in_ok-cables-in-Cables.ensures refl)

pub returns-in_ok-bars-in-Bars : goal.returns-in_ok-bars-in-Bars
returns-in_ok-bars-in-Bars c = rw c.in-Bars.is (GoesOn _ c.in_ok-bars-in-Bars.ensures refl)

use Rattle.kd_desk.proofs.Days.{not_found, on_day}
use Rattle.kd_desk.proofs.run_card.run_card.Goals as goal

pub returns-in_err-machine-clause-card : goal.returns-in_err-machine-clause-card
returns-in_err-machine-clause-card g c =
    not_found _ _ _ _ c.from_residual.result _ c.in_err-machine.ensures.day c.from_residual.ensures.1

pub returns-clause-card : goal.returns-clause-card
returns-clause-card g c =
    on_day _ _ _ _ _ _ _ c.in_ok-machine.ensures.day (rw c.in_ok-machine.ensures.number at c.print_card.ensures.prints)

pub returns-in_err-machine-clause-chosen : goal.returns-in_err-machine-clause-chosen
returns-in_err-machine-clause-chosen g c =
    not_found _ _ _ _ c.from_residual.result _ c.in_err-machine.ensures.day c.from_residual.ensures.1

pub returns-clause-chosen : goal.returns-clause-chosen
returns-clause-chosen g c =
    on_day _ _ _ _ _ _ _ c.in_ok-machine.ensures.day (rw c.in_ok-machine.ensures.number at c.print_card.ensures.chosen)

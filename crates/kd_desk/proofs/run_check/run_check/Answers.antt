use Rattle.kd_desk.proofs.Days.{not_found, on_day}
use Rattle.kd_desk.proofs.run_check.run_check.Goals as goal

pub returns-in_err-machine-clause-checks : goal.returns-in_err-machine-clause-checks
returns-in_err-machine-clause-checks g c =
    not_found _ _ _ _ c.from_residual.result _ c.in_err-machine.ensures.day c.from_residual.ensures.1

pub returns-clause-checks : goal.returns-clause-checks
returns-clause-checks g c = on_day _ _ _ _ _ _ _ c.in_ok-machine.ensures.day c.check_card.ensures.checks

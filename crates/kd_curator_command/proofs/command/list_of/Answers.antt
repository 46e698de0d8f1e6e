use Rattle.kd_curator_command.proofs.Prelude.{refl}
use Rattle.kd_curator_command.proofs.CommandLines.{only_list}
use Rattle.kd_curator_command.proofs.command.list_of.Goals as goal

pub returns-in_err-day-clause-none : goal.returns-in_err-day-clause-none
returns-in_err-day-clause-none c =
    λ _ task of. let is = only_list _ task of in c.in_err-day.ensures.none refl is.0 is.1

pub returns-clause-said : goal.returns-clause-said
returns-clause-said c = record { name = refl; arguments = c.in_ok-day.ensures.said }

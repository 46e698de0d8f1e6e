use Rattle.kd_curator_command.proofs.Prelude.{refl, rules}
use Rattle.kd_curator_command.proofs.CommandLines.{only_page}
use Rattle.kd_curator_command.proofs.command.page_of.Goals as goal

pub returns-in_err-days-clause-none : goal.returns-in_err-days-clause-none
returns-in_err-days-clause-none c =
    λ _ task of. let is = only_page _ task of in c.days_asked.ensures.none (search rules) is.0 is.1

pub returns-clause-said : goal.returns-clause-said
returns-clause-said c = record { name = refl; arguments = (search rules) }

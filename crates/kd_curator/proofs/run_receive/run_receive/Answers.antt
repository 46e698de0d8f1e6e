use Rattle.kd_curator.proofs.Answers.{on_found}
use Rattle.kd_curator.proofs.run_receive.run_receive.Goals as goal

pub returns-clause-page : goal.returns-clause-page
returns-clause-page g c = on_found _ _ _ _ c.in_ok-machine.ensures.found
    (rw c.day-day.ensures.value at c.write_form.ensures.page)

pub returns-clause-told : goal.returns-clause-told
returns-clause-told g c = on_found _ _ _ _ c.in_ok-machine.ensures.found
    (rw c.day-day.ensures.value at c.write_form.ensures.told)

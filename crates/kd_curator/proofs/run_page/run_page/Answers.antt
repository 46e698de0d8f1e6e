use Rattle.kd_curator.proofs.Answers.{on_found}
use Rattle.kd_curator.proofs.run_page.run_page.Goals as goal

pub returns-clause-pages : goal.returns-clause-pages
returns-clause-pages g c = on_found _ _ _ _ c.in_ok-machine.ensures.found
    (rw (c.wanted_days-days.ensures, c.model.ensures) at c.write_days.ensures.pages)

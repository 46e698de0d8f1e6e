use Rattle.kd_curator.proofs.Answers.{on_found}
use Rattle.kd_curator.proofs.run_type.run_type.Goals as goal

pub returns-clause-page : goal.returns-clause-page
returns-clause-page g c = on_found _ _ _ _ c.in_ok-machine.ensures.found c.write_typing_page.ensures.page

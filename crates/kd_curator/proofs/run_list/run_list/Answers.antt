use Rattle.kd_curator.proofs.Answers.{on_found}
use Rattle.kd_curator.proofs.run_list.run_list.Goals as goal

pub returns-clause-list : goal.returns-clause-list
returns-clause-list g c = on_found _ _ _ _ c.in_ok-machine.ensures.found c.write_list.ensures.list

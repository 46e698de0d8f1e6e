use Rattle.kd_curator.proofs.Answers.{on_found}
use Rattle.kd_curator.proofs.run_orders.run_orders.Goals as goal

pub returns-clause-pages : goal.returns-clause-pages
returns-clause-pages g c = on_found _ _ _ _ c.in_ok-machine.ensures.found
    (rw c.day-day.ensures.value at c.write_orders.ensures.pages)

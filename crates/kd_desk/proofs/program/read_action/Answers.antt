use Rattle.kd_host.proofs.FileNames.{all_on, misses_first, misses_on, misses_so}
use Rattle.kd_desk.proofs.program.read_action.Goals as goal

pub returns-in_err-list-in-Apply-clause-asked : goal.returns-in_err-list-in-Apply-clause-asked
returns-in_err-list-in-Apply-clause-asked g c =
    rw c.in-Apply.is
    (misses_so _ _ _ _ _ c.from_residual.ensures.1 (misses_first _ _ _ _ c.in_err-list-in-Apply.ensures.asked))

pub returns-in_err-sheet-in-OnDay-clause-asked : goal.returns-in_err-sheet-in-OnDay-clause-asked
returns-in_err-sheet-in-OnDay-clause-asked g c =
    rw c.in-OnDay.is
    (misses_so _ _ _ _ _ c.from_residual-in_err-sheet-in-OnDay.ensures.1
    (misses_first _ _ _ _ c.in_err-sheet-in-OnDay.ensures.asked))

pub returns-in_err-task-in-OnDay-clause-asked : goal.returns-in_err-task-in-OnDay-clause-asked
returns-in_err-task-in-OnDay-clause-asked g c =
    rw c.in-OnDay.is (misses_so _ _ _ _ _ c.from_residual-in_err-task-in-OnDay.ensures.1
    (misses_on _ _ _ _ _ c.in_ok-sheet-in-OnDay.ensures.asked c.in_err-task-in-OnDay.ensures.asked))

pub returns-in_ok-task-in-OnDay-clause-asked : goal.returns-in_ok-task-in-OnDay-clause-asked
returns-in_ok-task-in-OnDay-clause-asked g c =
    rw c.in-OnDay.is (all_on _ _ _ _ _ c.in_ok-sheet-in-OnDay.ensures.asked c.in_ok-task-in-OnDay.ensures.asked)

use Rattle.kd_host.proofs.FileNames.{all_on, misses_first, misses_on, misses_so}
use Rattle.kd_desk.proofs.program.read_files.Goals as goal

pub returns-in_err-machine-clause-asked : goal.returns-in_err-machine-clause-asked
returns-in_err-machine-clause-asked g c =
    misses_so _ _ _ _ _ c.from_residual.ensures.1 (misses_first _ _ _ _ c.in_err-machine.ensures.asked)

pub returns-in_err-action-clause-asked : goal.returns-in_err-action-clause-asked
returns-in_err-action-clause-asked g c =
    misses_so _ _ _ _ _ c.from_residual-in_err-action.ensures.1
    (misses_on _ _ _ _ _ c.in_ok-machine.ensures.asked c.in_err-action.ensures.asked)

pub returns-clause-asked : goal.returns-clause-asked
returns-clause-asked g c = all_on _ _ _ _ _ c.in_ok-machine.ensures.asked c.in_ok-action.ensures.asked

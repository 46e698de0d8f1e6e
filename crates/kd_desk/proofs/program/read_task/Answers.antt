use Rattle.kd_host.proofs.FileNames.{misses_first, misses_so}
use Rattle.kd_desk.proofs.program.read_task.Goals as goal

pub returns-in_err-card-in-Check-clause-asked : goal.returns-in_err-card-in-Check-clause-asked
returns-in_err-card-in-Check-clause-asked g c =
    rw c.in-Check.is
    (misses_so _ _ _ _ _ c.from_residual.ensures.1 (misses_first _ _ _ _ c.in_err-card-in-Check.ensures.asked))

pub returns-in_err-file-in-Message-clause-asked : goal.returns-in_err-file-in-Message-clause-asked
returns-in_err-file-in-Message-clause-asked g c =
    rw c.in-Message.is
    (misses_so _ _ _ _ _ c.from_residual-in_err-file-in-Message.ensures.1
    (misses_first _ _ _ _ c.in_err-file-in-Message.ensures.asked))

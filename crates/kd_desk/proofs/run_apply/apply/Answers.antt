use Rattle.kd_desk.proofs.Prelude.{NoSettings, RefusedLine, Carried}
use Rattle.kd_host.proofs.Failing.{err_is, in_part, in_whole}
use Rattle.kd_desk.proofs.run_apply.apply.Goals as goal

pub returns-in_err-settings-clause-applied : goal.returns-in_err-settings-clause-applied
returns-in_err-settings-clause-applied g c =
    NoSettings _ c.in_err-settings.ensures (err_is _ _ c.from_residual.ensures.1)

pub returns-in_err-machine-clause-applied : goal.returns-in_err-machine-clause-applied
returns-in_err-machine-clause-applied g c =
    RefusedLine _ _ c.in_ok-settings.ensures (rw c.as_slice.ensures.value at c.in_err-machine.ensures.refused)
    (err_is _ _ c.from_residual-in_err-machine.ensures.1)

pub returns-in_err-write_machine-clause-applied : goal.returns-in_err-write_machine-clause-applied
returns-in_err-write_machine-clause-applied g c =
    let writing = c.in_err-write_machine.ensures in
    Carried _ _ c.in_ok-settings.ensures (rw c.as_slice.ensures.value at c.in_ok-machine.ensures.carried) writing.file
    (in_part _ _ _ _ writing.text.front c.from_residual-in_err-write_machine.ensures.1)

pub returns-clause-applied : goal.returns-clause-applied
returns-clause-applied g c =
    let writing = c.in_ok-write_machine.ensures in
    Carried _ _ c.in_ok-settings.ensures (rw c.as_slice.ensures.value at c.in_ok-machine.ensures.carried) writing.file
    (in_whole _ _ _ writing.text.whole)

use Rattle.kd_form.proofs.Prelude.{err_is, refl, OffKey}
use Rattle.kd_form.proofs.sending.send.Goals as goal

pub returns-in_err-check_machine : goal.returns-in_err-check_machine
returns-in_err-check_machine c =
    rw (err_is _ _ c.from_residual.ensures.1) (OffKey _ c.in_err-check_machine.ensures refl)

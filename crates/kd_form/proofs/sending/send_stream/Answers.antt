use Rattle.kd_form.proofs.{OneText.{err_is, FailureAgrees-order, sym, ◌∙◌, false≢true}, Prelude.{refl, FaultBefore}}
use Rattle.kd_form.proofs.sending.send_stream.Goals as goal

pub returns-in_err-check_machine-clause-streamed : goal.returns-in_err-check_machine-clause-streamed
returns-in_err-check_machine-clause-streamed g c =
    rw (err_is _ _ c.from_residual.ensures.1)
    (FaultBefore _ c.in_err-check_machine.ensures refl (record { has = refl; well = refl })
    (record { has = refl; well = refl }))

pub returns-clause-untouched : goal.returns-clause-untouched
returns-clause-untouched g c =
    λ off. absurd (false≢true (sym (FailureAgrees-order _ _ _ _ _ _ c.stream_message.ensures.answers).1 ∙ off))

pub returns-clause-failed : goal.returns-clause-failed
returns-clause-failed g c = (FailureAgrees-order _ _ _ _ _ _ c.stream_message.ensures.answers).0

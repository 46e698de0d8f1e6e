use Rattle.kd_curator.proofs.ReceiveAnswers.{form_noted}
use Rattle.kd_curator.proofs.Runs.{not_device}
use Rattle.kd_curator.proofs.program.work_message.Goals as goal

pub returns-in-Send-clause-untouched : goal.returns-in-Send-clause-untouched
returns-in-Send-clause-untouched g c = not_device _ c.run_send.ensures.untouched

pub returns-in-Receive-clause-noted : goal.returns-in-Receive-clause-noted
returns-in-Receive-clause-noted g c =
    let told = rw (c.text_at.ensures, c.text_at-2.ensures, c.text_at-message.ensures) at c.run_receive.ensures.told in
    rw c.in-Receive.is (form_noted g.E.Sink.taken g.E.Sink.has_failed _ _ _ _ _ _ _ _ told
    c.run_receive.ensures.quiet c.run_receive.ensures.tells)

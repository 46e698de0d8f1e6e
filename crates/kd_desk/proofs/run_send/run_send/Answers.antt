use Rattle.kd_desk.proofs.{Days.not_found, Days.on_day, Streaming.{FailureAgrees-passed_on, off_key, passed_on}}
use Rattle.kd_desk.proofs.run_send.run_send.Goals as goal

pub returns-in_err-machine-clause-sends : goal.returns-in_err-machine-clause-sends
returns-in_err-machine-clause-sends g c =
    not_found _ _ _ _ c.from_residual.result _ c.in_err-machine.ensures.day c.from_residual.ensures.1

pub returns-clause-sends : goal.returns-clause-sends
returns-clause-sends g c =
    on_day _ _ _ _ _ _ _ c.in_ok-machine.ensures.day
    (record {
      told = c.send_stream.result;
      so = c.send_stream.ensures.streamed;
      answers = passed_on _ _ c.map_err.ensures.cases;
    })

pub returns-clause-untouched : goal.returns-clause-untouched
returns-clause-untouched g c =
    λ before. c.send_stream.ensures.untouched (off_key _ _ (passed_on _ _ c.map_err.ensures.cases) before)

pub returns-clause-failed : goal.returns-clause-failed
returns-clause-failed g c = FailureAgrees-passed_on _ _ _ _ (passed_on _ _ c.map_err.ensures.cases)
    c.send_stream.ensures.failed

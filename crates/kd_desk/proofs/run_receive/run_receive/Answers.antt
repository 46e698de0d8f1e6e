use Rattle.kd_desk.proofs.{Days.not_found, Days.on_day, Receiving.forms_agree_with_orders}
use Rattle.kd_desk.proofs.{Streaming.{FailureAgrees-passed_on, off_key, passed_on}}
use Rattle.kd_desk.proofs.run_receive.run_receive.Goals as goal

pub returns-in_err-machine-clause-receives : goal.returns-in_err-machine-clause-receives
returns-in_err-machine-clause-receives g c =
    not_found _ _ _ _ c.from_residual.result _ c.in_err-machine.ensures.day c.from_residual.ensures.1

pub returns-clause-receives : goal.returns-clause-receives
returns-clause-receives g c =
    on_day _ _ _ _ _ _ _ c.in_ok-machine.ensures.day (record {
      streamed = record {
        told = c.receive_stream.result;
        so = c.receive_stream.ensures.streamed;
        answers = passed_on _ _ c.map_err.ensures.cases;
      };
      orders = forms_agree_with_orders c.in_ok-machine.day c.in_ok-machine.ensures.legal.1;
    })

pub returns-clause-untouched : goal.returns-clause-untouched
returns-clause-untouched g c =
    λ before. c.receive_stream.ensures.untouched (off_key _ _ (passed_on _ _ c.map_err.ensures.cases) before)

pub returns-clause-failed : goal.returns-clause-failed
returns-clause-failed g c = FailureAgrees-passed_on _ _ _ _ (passed_on _ _ c.map_err.ensures.cases)
    c.receive_stream.ensures.failed

use Rattle.std.proofs.Common.{Err, Ok, ap, refl, rules, ◌||◌, ◌∙◌}
use Rattle.kd_curator.proofs.SendAnswers.{device_told, page_told, untouched_told}
use Rattle.kd_curator.specs.Refusals.{refused_message}
use Rattle.kd_curator.proofs.run_send.write_order.Goals as goal

pub returns-in-Ok-clause-page : goal.returns-in-Ok-clause-page
returns-in-Ok-clause-page g c =
    page_told _ _ _ _ _ _ _ (search rules) (Ok tt) c.in-Ok.ensures.page

pub returns-in-Err-clause-page : goal.returns-in-Err-clause-page
returns-in-Err-clause-page g c =
    rw c.of_send.ensures (page_told _ _ _ _ _ _ _ (search rules) (Err c.in-Err.fault) c.in-Err.ensures.page)

pub returns-in-Err-clause-untouched : goal.returns-in-Err-clause-untouched
returns-in-Err-clause-untouched g c =
    rw c.of_send.ensures (λ err other. untouched_told refused_message (λ why. refl) c.in-Err.fault (c.in-Err.ensures.untouched refl) other)

pub returns-in-Err-clause-failed : goal.returns-in-Err-clause-failed
returns-in-Err-clause-failed g c =
    rw c.of_send.ensures
    (c.in-Err.ensures.failed ∙ ap (λ b. g.W.Sink.has_failed c.args.sink.now || b) (device_told refused_message (λ why. refl) c.in-Err.fault))

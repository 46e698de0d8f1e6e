use Rattle.std.proofs.Common.{Err, Ok, ap, refl, rules, ◌||◌, ◌∙◌}
use Rattle.kd_curator.proofs.SendAnswers.{device_told, pages_told, untouched_told}
use Rattle.kd_curator.specs.Refusals.{refused_among}
use Rattle.kd_curator.proofs.run_orders.write_orders.Goals as goal

pub returns-in-Ok-clause-pages : goal.returns-in-Ok-clause-pages
returns-in-Ok-clause-pages g c =
    pages_told _ _ _ _ _ _ _ (search rules) (Ok tt) c.in-Ok.ensures.pages

pub returns-in-Err-clause-pages : goal.returns-in-Err-clause-pages
returns-in-Err-clause-pages g c =
    rw c.of_orders.ensures (pages_told _ _ _ _ _ _ _ (search rules) (Err c.in-Err.fault) c.in-Err.ensures.pages)

pub returns-in-Err-clause-untouched : goal.returns-in-Err-clause-untouched
returns-in-Err-clause-untouched g c =
    rw c.of_orders.ensures (λ err other. untouched_told refused_among (λ why. refl) c.in-Err.fault (c.in-Err.ensures.untouched refl) other)

pub returns-in-Err-clause-failed : goal.returns-in-Err-clause-failed
returns-in-Err-clause-failed g c =
    rw c.of_orders.ensures
    (c.in-Err.ensures.failed ∙ ap (λ b. g.W.Sink.has_failed c.args.sink.now || b) (device_told refused_among (λ why. refl) c.in-Err.fault))

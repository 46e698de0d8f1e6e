use Rattle.kd_desk.proofs.{Prelude.{arith, rules}, Printing.printed, Printing.shortest_printed}
use Rattle.kd_host.proofs.Failing.{in_part, in_whole}
use Rattle.kd_desk.proofs.run_card.print_card.Goals as goal

pub returns-in_err-write_card-clause-chosen : goal.returns-in_err-write_card-clause-chosen
returns-in_err-write_card-clause-chosen g c =
    let writing = c.in_err-write_card.ensures in
    printed _ _ (search rules) (search rules)
    _ _ c.in_ok-plan.ensures.card c.with_prices_by_kind-card.ensures _ _ _ _ c.day.ensures.value
    writing.card (in_part _ _ _ _ writing.text.front c.from_residual-in_err-write_card.ensures.1)
    (λ err. grind (arith, writing.failed))

pub returns-in_err-write_card-clause-prints : goal.returns-in_err-write_card-clause-prints
returns-in_err-write_card-clause-prints g c =
    shortest_printed _ _ _ _ _ (returns-in_err-write_card-clause-chosen g c)

pub returns-clause-chosen : goal.returns-clause-chosen
returns-clause-chosen g c =
    let writing = c.in_ok-write_card.ensures in
    printed _ _ (search rules) (search rules)
    _ _ c.in_ok-plan.ensures.card c.with_prices_by_kind-card.ensures _ _ _ _ c.day.ensures.value
    writing.card (in_whole _ _ _ writing.text.whole) (λ err. grind (arith, err))

pub returns-clause-prints : goal.returns-clause-prints
returns-clause-prints g c = shortest_printed _ _ _ _ _ (returns-clause-chosen g c)

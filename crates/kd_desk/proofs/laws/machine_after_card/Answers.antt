use Rattle.kd_card.proofs.Months.Shortest.{model_of-list}
use Rattle.kd_desk.proofs.{Months.papers_for, Prelude.Leads, Prelude.rules}
use Rattle.kd_plan.specs.Planned.{IsProvedPlannedCard}
use Rattle.kd_desk.proofs.laws.machine_after_card.Goals as goal

pub returns-clause-written : goal.returns-clause-written
returns-clause-written c =
    let m = c.args.machine.now in
    let planned = c.unwrap.result in
    let card = c.with_prices_by_kind-card.result in
    let plans : IsProvedPlannedCard m c.args.day.now planned.settings.items planned.prices = search rules in
    let carried : Leads m c.as_slice.result.now c.unwrap-2.result = search rules in
    let leads = rw c.as_slice.ensures.value at carried in
    papers_for c.written_files_are_read_back.ensures.machines m c.unwrap-2.result c.args.day.now
    (search rules) (search rules) planned card plans c.with_prices_by_kind-card.ensures _ c.day.result
    c.day.ensures.value c.write_card.ensures.card leads

pub returns-clause-model : goal.returns-clause-model
returns-clause-model c =
    let carried : Leads c.args.machine.now c.as_slice.result.now c.unwrap-2.result = search rules in
    model_of-list _ _ _ carried

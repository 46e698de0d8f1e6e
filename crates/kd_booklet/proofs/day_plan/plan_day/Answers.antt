use Rattle.std.proofs.Common.{rules}
use Rattle.kd_card.proofs.Months.Shortest.{model_of-list}
use Rattle.kd_state.specs.Setting.{Leads}
use Rattle.kd_booklet.proofs.DayPlans.{settings_order, sheets_machine}
use Rattle.kd_booklet.proofs.PlannedBoxes.{page_has_boxes}
use Rattle.kd_booklet.proofs.day_plan.plan_day.Goals as goal

pub returns-clause-plan : goal.returns-clause-plan
returns-clause-plan c =
    let carried : Leads c.args.machine.now c.as_slice.result.now c.unwrap-after.result = search rules in
    let leads = rw c.as_slice.ensures.value at carried in
    let order = settings_order _ _ _ (search rules) (search rules) c.plan_by_hand-settings.ensures in
    record {
      number = c.day-day.ensures.value;
      by_hand = c.plan_by_hand-settings.ensures;
      order = order;
      boxes = page_has_boxes _ (search rules) _ order;
      few = rw c.as_slice.ensures.value at c.as_slice.ensures.fits;
      leads = leads;
      sheets = sheets_machine _ _ _ _ (search rules) (search rules) c.plan_by_hand-settings.ensures leads;
    }

pub returns-clause-model : goal.returns-clause-model
returns-clause-model c =
    let carried : Leads c.args.machine.now c.as_slice.result.now c.unwrap-after.result = search rules in
    model_of-list _ _ _ carried

use Rattle.std.proofs.Common.{rules}
use Rattle.kd_plan.specs.Planned.{IsProvedPlannedCard}
use Rattle.kd_booklet.proofs.PlannedOrder.{hand_list}
use Rattle.kd_booklet.proofs.hand_list.plan_by_hand.Goals as goal

pub returns : goal.returns
returns c =
    let planned = c.unwrap-settings.result in
    let proved : IsProvedPlannedCard c.args.machine.now c.args.day.now planned.settings.items planned.prices =
    search rules in
    hand_list _ _ _ _ _ proved c.hand_order.ensures

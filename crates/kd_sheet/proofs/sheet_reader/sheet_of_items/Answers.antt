use Rattle.kd_sheet.proofs.ReadBack.Described.{day_for, next_month, read_after_fault, rules, ◌∙◌}
use Rattle.kd_sheet.proofs.sheet_reader.sheet_of_items.Goals as goal

pub loop-item-preserved : goal.loop-item-preserved
loop-item-preserved c =
    let so_far = c.loop-item.invariant in
    next_month _ _ _ _ _ _ c.loop-item-test.true c.item-item.is so_far (c.in_ok-day.ensures so_far.days so_far.month)
    c.insert.ensures

pub returns-in_err-day : goal.returns-in_err-day
unfolding day_for
returns-in_err-day c =
    let so_far = c.loop-item.invariant in
    rw (so_far.read ∙ read_after_fault day_for _ _ _ c.loop-item-test.true c.item-item.is so_far.days _
    (c.in_err-day.ensures so_far.days so_far.month)) (search rules)

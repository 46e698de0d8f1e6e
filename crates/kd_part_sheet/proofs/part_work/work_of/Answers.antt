use Rattle.kd_form.proofs.MadeParts.{has_internal}
use Rattle.kd_form.specs.PartMaking.{enciphered_choice}
use Rattle.kd_part_sheet.proofs.Works.{pin_workable}
use Rattle.kd_part_sheet.proofs.part_work.work_of.Goals as goal

pub pin_work-requires-clause-window : goal.pin_work-requires-clause-window
pin_work-requires-clause-window c = (has_internal _ c.in-Pin.keys _ (rw c.in-Pin.is at c.requires.suits)).0

pub pin_work-requires-clause-internal : goal.pin_work-requires-clause-internal
pin_work-requires-clause-internal c = (has_internal _ c.in-Pin.keys _ (rw c.in-Pin.is at c.requires.suits)).1

pub returns-in-Pin-clause-workable : goal.returns-in-Pin-clause-workable
returns-in-Pin-clause-workable c =
    let (internal, is, made) = c.pin_work.ensures in
    pin_workable _ c.in-Pin.keys internal c.args.text.now (enciphered_choice c.args.day.now c.in-Pin.keys) _ (rw c.in-Pin.is at c.requires.keys)
    (has_internal _ c.in-Pin.keys _ (rw c.in-Pin.is at c.requires.suits)).0 is made

use Rattle.kd_message.specs.ReceivePage.{HasShowableKeys}
use Rattle.kd_message.proofs.ReceivePages.{shown_holds}
use Rattle.kd_message.proofs.receiving.draw_shown.Goals as goal

pub draw_part-requires : goal.draw_part-requires
draw_part-requires g c =
    shown_holds (HasShowableKeys c.args.day.now) c.args.number
    c.args.parts.now c.in-Some.part.now c.requires.workable c.in-Some.ensures

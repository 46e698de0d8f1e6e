use Rattle.std.proofs.Common.{arith}
use Rattle.std.proofs.lemmas.Grind.{common_steps}
use Rattle.kd_pictures.proofs.Drawings.{joined}
use Rattle.kd_message.proofs.text_sheet.draw_group_requests.Goals as goal

pub returns : goal.returns
returns g c =
    joined c.draw_ask_for_day.ensures
    (rw c.as_slice.ensures.value at c.draw_ask_for_lost.ensures)
    (grind (arith, common_steps))

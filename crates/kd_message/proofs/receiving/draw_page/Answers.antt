use Rattle.std.proofs.Common.{arith}
use Rattle.std.proofs.lemmas.Grind.{common_steps}
use Rattle.kd_pictures.proofs.Drawings.{both, joined}
unfoldable use Rattle.kd_message.specs.ReceivePage.{receive_text}
use Rattle.kd_message.proofs.receiving.draw_page.Goals as goal

pub returns : goal.returns
unfolding receive_text
returns g c =
    let note = rw c.note.ensures at c.draw_if.ensures in
    joined (both (both (both (both (both (both (both (both (both (both c.draw_title.ensures c.draw.ensures)
    c.draw_section.ensures) c.draw_in.ensures) c.draw_section-2.ensures) c.draw_text_sheet_head.ensures)
    c.draw_passed.ensures) c.draw_order.ensures) c.draw_section-3.ensures) note) c.draw-2.ensures) c.draw-3.ensures
    (grind (arith, common_steps))

use Rattle.std.proofs.Common.{arith}
use Rattle.std.proofs.lemmas.Grind.{common_steps}
use Rattle.kd_pictures.proofs.Drawings.{joined}
unfoldable use Rattle.kd_message.specs.ReceivePage.{receive_notes}
use Rattle.kd_message.proofs.receiving.draw_notes.Goals as goal

pub returns : goal.returns
unfolding receive_notes
returns g c =
    joined c.draw_several_note.ensures c.draw_section.ensures
    (grind (arith, common_steps))

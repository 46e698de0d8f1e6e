use Rattle.std.proofs.Common.{arith}
use Rattle.std.proofs.lemmas.Grind.{common_steps}
use Rattle.kd_pictures.proofs.Drawings.{joined}
unfoldable use Rattle.kd_message.specs.Notes.{read_note}
use Rattle.kd_message.proofs.notes.draw_read_note.Goals as goal

pub returns : goal.returns
unfolding read_note
returns g c =
    joined c.draw_day_note.ensures
    (rw c.as_slice.ensures.value at c.draw_lost_note.ensures)
    (grind (arith, common_steps))

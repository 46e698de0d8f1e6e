use Rattle.std.proofs.Common.{arith}
use Rattle.std.proofs.lemmas.Grind.{common_steps}
use Rattle.kd_pictures.proofs.Drawings.{both, joined}
unfoldable use Rattle.kd_message.specs.Notes.{note_line}
use Rattle.kd_message.proofs.notes.draw_other_day.Goals as goal

pub returns : goal.returns
unfolding note_line
returns g c =
    let words = rw c.day_groups.ensures at c.draw.ensures in
    joined (both (both (both c.draw_note_name.ensures c.draw_in.ensures) c.draw_in-2.ensures) words)
    c.draw-2.ensures
    (grind (arith, common_steps))

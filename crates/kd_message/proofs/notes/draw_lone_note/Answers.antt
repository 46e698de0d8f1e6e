use Rattle.std.proofs.Common.{arith}
use Rattle.std.proofs.lemmas.Grind.{common_steps}
use Rattle.kd_pictures.proofs.Drawings.{both, joined}
unfoldable use Rattle.kd_message.specs.Notes.{lone_note}
use Rattle.kd_message.proofs.notes.draw_lone_note.Goals as goal

pub returns : goal.returns
unfolding lone_note
returns g c =
    joined (both (both (both c.draw_lone_words.ensures c.draw.ensures) c.draw_lone_reason.ensures)
    c.draw_lone_ask_note.ensures) c.draw-2.ensures
    (grind (arith, common_steps))

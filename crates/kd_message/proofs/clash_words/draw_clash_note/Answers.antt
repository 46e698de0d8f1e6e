use Rattle.std.proofs.Common.{arith}
use Rattle.std.proofs.lemmas.Grind.{common_steps}
use Rattle.kd_pictures.proofs.Drawings.{both, joined}
unfoldable use Rattle.kd_message.specs.ClashWords.{clash_note}
use Rattle.kd_message.proofs.clash_words.draw_clash_note.Goals as goal

pub returns : goal.returns
unfolding clash_note
returns g c =
    joined (both c.draw_in.ensures c.draw_clash.ensures)
    c.draw.ensures
    (grind (arith, common_steps))

use Rattle.std.proofs.Common.{arith}
use Rattle.std.proofs.lemmas.Grind.{common_steps}
use Rattle.kd_pictures.proofs.Drawings.{both, joined}
unfoldable use Rattle.kd_message.specs.TextSheet.{short_words}
use Rattle.kd_message.proofs.unread.draw_short_words.Goals as goal

pub returns : goal.returns
unfolding short_words
returns g c =
    joined (both (both (both c.draw.ensures c.draw_line_words.ensures) c.draw_in.ensures) c.draw_count.ensures)
    c.draw_in-2.ensures
    (grind (arith, common_steps))

use Rattle.std.proofs.Common.{arith}
use Rattle.std.proofs.lemmas.Grind.{common_steps}
use Rattle.kd_pictures.proofs.Drawings.{both, joined}
unfoldable use Rattle.kd_message.specs.TextSheet.{counts_text}
use Rattle.kd_message.proofs.unread.draw_counts.Goals as goal

pub returns : goal.returns
unfolding counts_text
returns g c =
    joined (both (both (both (both c.draw_line_words.ensures c.draw_in.ensures) c.draw_count.ensures) c.draw_in-2.ensures)
    c.draw_count-2.ensures) c.draw_in-3.ensures
    (grind (arith, common_steps))

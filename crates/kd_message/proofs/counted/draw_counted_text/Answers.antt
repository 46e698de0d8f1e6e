use Rattle.std.proofs.Common.{arith}
use Rattle.std.proofs.lemmas.Grind.{common_steps}
use Rattle.kd_pictures.proofs.Drawings.{both, joined}
unfoldable use Rattle.kd_message.specs.TextSheet.{ask_text, counted_text}
use Rattle.kd_message.proofs.counted.draw_counted_text.Goals as goal

pub returns : goal.returns
unfolding ask_text counted_text
returns g c =
    joined (both (both (both (both (both (both c.draw_in.ensures c.draw_counted_reason.ensures) c.draw_groups_told.ensures)
    c.draw.ensures) c.draw_read_text.ensures) c.fill_in.ensures) c.draw_count_asked.ensures) c.draw-2.ensures
    (grind (arith, common_steps))

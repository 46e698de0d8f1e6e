use Rattle.std.proofs.Common.{arith}
use Rattle.std.proofs.lemmas.Grind.{common_steps}
use Rattle.kd_pictures.proofs.Drawings.{both, joined}
unfoldable use Rattle.kd_message.specs.LoneParts.{lone_text}
use Rattle.kd_message.proofs.lone_parts.draw_lone_text.Goals as goal

pub returns : goal.returns
unfolding lone_text
returns g c =
    joined (both (both (both (both (both (both c.draw.ensures c.draw_lone_words.ensures) c.fill_in.ensures) c.draw_in.ensures)
    c.draw_lone_reason.ensures) c.draw-2.ensures) c.draw_lone_ask.ensures) c.draw-3.ensures
    (grind (arith, common_steps))

use Rattle.std.proofs.Common.{arith}
use Rattle.std.proofs.lemmas.Grind.{common_steps}
use Rattle.kd_pictures.proofs.Drawings.{both, joined}
unfoldable use Rattle.kd_message.specs.TextSheet.{ask_text, unread_text}
use Rattle.kd_message.proofs.unread.draw_damage.Goals as goal

pub returns : goal.returns
unfolding ask_text unread_text
returns g c =
    joined (both (both (both (both (both (both c.draw_in.ensures c.draw_reason.ensures) c.draw.ensures)
    c.fill_in.ensures) c.draw_asked.ensures) c.draw-2.ensures) c.draw_warnings.ensures) c.draw_ask_for_day.ensures
    (grind (arith, common_steps))

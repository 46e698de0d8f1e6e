use Rattle.std.proofs.Common.{arith}
use Rattle.std.proofs.lemmas.Grind.{common_steps}
use Rattle.kd_pictures.proofs.Drawings.{both, joined}
unfoldable use Rattle.kd_message.specs.TextSheet.{ask_text}
use Rattle.kd_message.proofs.unread.draw_ask.Goals as goal

pub returns : goal.returns
unfolding ask_text
returns g c =
    joined (both c.fill_in.ensures c.draw.ensures) c.draw-2.ensures
    (grind (arith, common_steps))

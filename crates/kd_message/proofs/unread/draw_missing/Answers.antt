use Rattle.std.proofs.Common.{arith}
use Rattle.std.proofs.lemmas.Grind.{common_steps}
use Rattle.kd_pictures.proofs.Drawings.{both, joined}
unfoldable use Rattle.kd_message.specs.TextSheet.{unread_text}
use Rattle.kd_message.proofs.unread.draw_missing.Goals as goal

pub returns : goal.returns
unfolding unread_text
returns g c =
    joined (both (both c.draw_in.ensures c.draw.ensures) c.draw-2.ensures) c.draw_ask.ensures
    (grind (arith, common_steps))

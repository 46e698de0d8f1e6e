use Rattle.std.proofs.Common.{arith}
use Rattle.std.proofs.lemmas.Grind.{common_steps}
use Rattle.kd_pictures.proofs.Drawings.{both, joined}
unfoldable use Rattle.kd_message.specs.SendPage.{title_text}
use Rattle.kd_message.proofs.sending.draw_title.Goals as goal

pub returns : goal.returns
unfolding title_text
returns g c =
    joined (both (both (both c.draw_file_head.ensures c.fill_in.ensures) c.draw.ensures)
    c.draw-2.ensures) c.draw-3.ensures
    (grind (arith, common_steps))

use Rattle.std.proofs.Common.{arith}
use Rattle.std.proofs.lemmas.Grind.{common_steps}
use Rattle.kd_pictures.proofs.Drawings.{both, joined}
unfoldable use Rattle.kd_message.specs.SendPage.{list_text}
use Rattle.kd_message.proofs.sending.draw_list.Goals as goal

pub returns : goal.returns
unfolding list_text
returns g c =
    joined (both (both (both c.draw.ensures c.draw_listed.ensures) c.draw-2.ensures) c.draw_form_number.ensures) c.draw_in.ensures
    (grind (arith, common_steps))

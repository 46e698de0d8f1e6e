use Rattle.std.proofs.Common.{arith}
use Rattle.std.proofs.lemmas.Grind.{common_steps}
use Rattle.kd_pictures.proofs.Drawings.{both, joined}
use Rattle.kd_message.proofs.receiving.draw_part_text.Goals as goal

pub returns : goal.returns
returns g c =
    joined (both (both c.draw_text_part_head.ensures c.draw_came.ensures) c.draw_text_or_damage.ensures) c.draw.ensures
    (grind (arith, common_steps))

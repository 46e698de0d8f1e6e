use Rattle.std.proofs.Common.{arith}
use Rattle.std.proofs.lemmas.Grind.{common_steps}
use Rattle.kd_pictures.proofs.Drawings.{both, joined}
use Rattle.kd_message.proofs.counted.draw_short_group.Goals as goal

pub returns : goal.returns
returns g c =
    joined (both c.draw_in.ensures c.draw_count.ensures) c.draw_in-2.ensures
    (grind (arith, common_steps))

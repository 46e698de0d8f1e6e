use Rattle.std.proofs.Common.{arith}
use Rattle.std.proofs.lemmas.Grind.{common_steps}
use Rattle.kd_pictures.proofs.Drawings.{joined}
use Rattle.kd_message.proofs.receiving.draw_number.Goals as goal

pub returns : goal.returns
returns g c =
    joined c.draw_shown.ensures c.draw_lone_after.ensures
    (grind (arith, common_steps))

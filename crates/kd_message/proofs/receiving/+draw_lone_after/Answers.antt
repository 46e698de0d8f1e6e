use Rattle.std.proofs.Common.{arith}
use Rattle.std.proofs.lemmas.Grind.{common_steps}
use Rattle.kd_pictures.proofs.Drawings.{joined}
use Rattle.kd_message.proofs.receiving.+draw_lone_after.Goals as goal

pub returns-in-len1-up : goal.returns-in-len1-up
returns-in-len1-up g t c =
    joined c.draw_lone_if.ensures c.draw_lone_after.ensures
    (grind (arith, common_steps))

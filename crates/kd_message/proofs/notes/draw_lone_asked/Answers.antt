use Rattle.std.proofs.Common.{arith}
use Rattle.std.proofs.lemmas.Grind.{common_steps}
use Rattle.kd_pictures.proofs.Drawings.{both, joined}
use Rattle.kd_message.proofs.notes.draw_lone_asked.Goals as goal

pub returns : goal.returns
returns g c =
    joined (both c.draw_in.ensures (rw c.lone_asked.ensures at c.draw.ensures)) c.draw-2.ensures
    (grind (arith, common_steps))

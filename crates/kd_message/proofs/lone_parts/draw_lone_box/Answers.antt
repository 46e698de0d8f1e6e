use Rattle.std.proofs.Common.{arith}
use Rattle.std.proofs.lemmas.Grind.{common_steps}
use Rattle.kd_pictures.proofs.Drawings.{both, joined}
unfoldable use Rattle.kd_message.specs.LoneParts.{lone_box}
use Rattle.kd_message.proofs.lone_parts.draw_lone_box.Goals as goal

pub returns : goal.returns
unfolding lone_box
returns g c =
    let asked = rw c.lone_asked.ensures at c.draw.ensures in
    joined (both c.draw_in.ensures asked) c.draw-2.ensures
    (grind (arith, common_steps))

use Rattle.std.proofs.Common.{arith}
use Rattle.std.proofs.lemmas.Grind.{common_steps}
use Rattle.kd_pictures.proofs.Drawings.{both, joined}
use Rattle.kd_pictures.proofs.wheels.draw_seated.Goals as goal

pub returns : goal.returns
returns g c =
    joined (both c.draw_wheel.ensures c.draw_ring.ensures) c.draw_window.ensures (grind (arith, common_steps))

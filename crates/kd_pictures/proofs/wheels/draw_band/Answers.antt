use Rattle.std.proofs.Common.{arith}
use Rattle.std.proofs.lemmas.Grind.{common_steps}
use Rattle.kd_pictures.proofs.Drawings.{both, joined}
unfoldable use Rattle.kd_pictures.specs.Wheels.{band_text}
use Rattle.kd_pictures.proofs.wheels.draw_band.Goals as goal

pub returns : goal.returns
unfolding band_text
returns g c =
    joined (both c.draw_band_head.ensures c.draw_reflector.ensures) c.draw_slots.ensures (grind (arith, common_steps))

use Rattle.std.proofs.Common.{arith}
use Rattle.std.proofs.lemmas.Grind.{common_steps}
use Rattle.kd_pictures.proofs.Drawings.{both, joined}
unfoldable use Rattle.kd_page.specs.Drum.{lugs_step}
use Rattle.kd_page.proofs.drum.draw_lugs_step.Goals as goal

pub returns : goal.returns
unfolding lugs_step
returns g c =
    joined (both (both c.draw_step.ensures c.draw_drum_head.ensures) c.draw_bars.ensures) c.draw.ensures (grind (
      arith,
      common_steps,
    ))

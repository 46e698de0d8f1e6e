use Rattle.std.proofs.Common.{arith}
use Rattle.std.proofs.lemmas.Grind.{common_steps}
use Rattle.kd_pictures.proofs.Drawings.{both, joined}
unfoldable use Rattle.kd_page.specs.Windows.{windows_step}
use Rattle.kd_page.proofs.windows.draw_windows_step.Goals as goal

pub returns : goal.returns
unfolding windows_step
returns g c =
    joined (both (both c.draw_full_step.ensures c.draw_in.ensures) c.draw_window_boxes.ensures) c.draw.ensures (grind
    (arith, common_steps))

use Rattle.std.proofs.Common.{arith}
use Rattle.std.proofs.lemmas.Grind.{common_steps}
use Rattle.kd_pictures.proofs.Drawings.{both, joined}
unfoldable use Rattle.kd_typing_page.specs.Windows.{window_text}
use Rattle.kd_typing_page.proofs.windows.draw_window.Goals as goal

pub returns : goal.returns
unfolding window_text
returns g c =
    joined (both c.fill_in.ensures c.draw.ensures) c.fill_in-2.ensures (grind (arith, common_steps))

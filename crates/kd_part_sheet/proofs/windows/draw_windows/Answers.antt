use Rattle.std.proofs.Common.{arith}
use Rattle.std.proofs.lemmas.Grind.{common_steps}
use Rattle.kd_pictures.proofs.Drawings.{both, joined}
unfoldable use Rattle.kd_part_sheet.specs.Windows.{windows_text}
use Rattle.kd_part_sheet.proofs.windows.draw_windows.Goals as goal

pub returns : goal.returns
unfolding windows_text
returns g c =
    joined (both (both (both c.draw.ensures c.draw_all_words.ensures) c.draw-2.ensures) c.draw_items.ensures) c.draw-3.ensures
    (grind (arith, common_steps))

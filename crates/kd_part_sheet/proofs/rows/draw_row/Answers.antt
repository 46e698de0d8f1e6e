use Rattle.std.proofs.Common.{arith}
use Rattle.std.proofs.lemmas.Grind.{common_steps}
use Rattle.kd_pictures.proofs.Drawings.{both, joined}
unfoldable use Rattle.kd_part_sheet.specs.Rows.{row_text}
use Rattle.kd_part_sheet.proofs.rows.draw_row.Goals as goal

pub returns : goal.returns
unfolding row_text
returns g c =
    joined (both (both (both c.draw.ensures c.draw_groups.ensures) c.fill.ensures) c.draw_windows_after.ensures) c.draw-2.ensures
    (grind (arith, common_steps))

use Rattle.std.proofs.Common.{arith}
use Rattle.std.proofs.lemmas.Grind.{common_steps}
use Rattle.kd_pictures.proofs.Drawings.{both, joined}
unfoldable use Rattle.kd_part_sheet.specs.Rows.{group_text}
use Rattle.kd_part_sheet.proofs.rows.draw_group.Goals as goal

pub returns : goal.returns
unfolding group_text
returns g c =
    joined (both (both (both (both c.draw.ensures c.draw_above.ensures) c.draw-2.ensures) c.draw_line_if.ensures) c.draw_line_if-2.ensures) c.draw-3.ensures
    (grind (arith, common_steps))

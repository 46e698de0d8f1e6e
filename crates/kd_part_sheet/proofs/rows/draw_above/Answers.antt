use Rattle.std.proofs.Common.{arith}
use Rattle.std.proofs.lemmas.Grind.{common_steps}
use Rattle.kd_pictures.proofs.Drawings.{both, joined}
use Rattle.kd_part_sheet.proofs.rows.draw_above.Goals as goal

pub returns-then-is_small : goal.returns-then-is_small
returns-then-is_small g c =
    joined (both c.draw.ensures c.draw_line.ensures) c.draw-then-is_small.ensures
    (grind (arith, common_steps))

use Rattle.std.proofs.Common.{arith}
use Rattle.std.proofs.lemmas.Grind.{common_steps}
use Rattle.kd_pictures.proofs.Drawings.{both, joined}
use Rattle.kd_part_sheet.proofs.rows.draw_line_if.Goals as goal

pub returns-then-is_there : goal.returns-then-is_there
returns-then-is_there g c =
    joined (both c.draw.ensures c.draw_line.ensures) c.draw-then-is_there.ensures
    (grind (arith, common_steps))

use Rattle.std.proofs.Common.{arith}
use Rattle.std.proofs.lemmas.Grind.{common_steps}
use Rattle.kd_pictures.proofs.Drawings.{joined}
use Rattle.kd_part_sheet.proofs.rows.draw_shown_after.Goals as goal

pub returns-else-is_converter : goal.returns-else-is_converter
returns-else-is_converter g c =
    joined c.draw_shown-else-is_converter.ensures c.draw_shown-else-is_converter-2.ensures
    (grind (arith, common_steps))

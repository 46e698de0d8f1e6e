use Rattle.std.proofs.Common.{arith}
use Rattle.std.proofs.lemmas.Grind.{common_steps}
use Rattle.kd_pictures.proofs.Drawings.{joined}
use Rattle.std.proofs.lemmas.List.{drop_min, take_min}
use Rattle.kd_part_sheet.proofs.part_sheet.draw_text_rows.Goals as goal

pub returns : goal.returns
returns g c =
    joined c.draw_rows.ensures c.draw_next_sheet.ensures
    (grind (arith, common_steps, take_min, drop_min))

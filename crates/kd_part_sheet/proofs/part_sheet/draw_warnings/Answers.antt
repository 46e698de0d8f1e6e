use Rattle.std.proofs.Common.{arith}
use Rattle.std.proofs.lemmas.Grind.{common_steps}
use Rattle.kd_pictures.proofs.Drawings.{both, joined}
use Rattle.kd_part_sheet.proofs.part_sheet.draw_warnings.Goals as goal

pub returns : goal.returns
returns g c =
    joined (both c.draw_if.ensures c.draw_if-2.ensures) c.draw_if-3.ensures
    (grind (arith, common_steps))

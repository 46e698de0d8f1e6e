use Rattle.std.proofs.Common.{arith}
use Rattle.std.proofs.lemmas.Grind.{common_steps}
use Rattle.kd_pictures.proofs.Drawings.{both, joined}
use Rattle.kd_printed_sheet.proofs.csv_table.draw_head.Goals as goal

pub returns : goal.returns
returns g c =
    joined (both c.draw.ensures c.draw-2.ensures) c.draw-3.ensures (grind (arith, common_steps))

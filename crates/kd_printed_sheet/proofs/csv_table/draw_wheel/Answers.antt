use Rattle.std.proofs.Common.{arith}
use Rattle.std.proofs.lemmas.Grind.{common_steps}
use Rattle.kd_pictures.proofs.Drawings.{joined}
use Rattle.kd_printed_sheet.proofs.csv_table.draw_wheel.Goals as goal

pub returns : goal.returns
returns g c =
    joined c.draw.ensures c.draw_effective.ensures (grind (arith, common_steps))

use Rattle.std.proofs.Common.{arith}
use Rattle.std.proofs.lemmas.Grind.{common_steps}
use Rattle.kd_pictures.proofs.Drawings.{both, joined}
use Rattle.kd_printed_sheet.proofs.month_table.draw_setting_cells.Goals as goal

pub returns : goal.returns
returns g c =
    joined (both c.fill.ensures c.draw_wheels.ensures) c.draw_rings.ensures (grind (arith, common_steps))

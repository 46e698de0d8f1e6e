use Rattle.std.proofs.Common.{arith}
use Rattle.std.proofs.lemmas.Grind.{common_steps}
use Rattle.kd_pictures.proofs.Drawings.{both, joined}
unfoldable use Rattle.kd_printed_sheet.specs.MonthTable.{month_head}
use Rattle.kd_printed_sheet.proofs.month_table.draw_month_head.Goals as goal

pub returns : goal.returns
unfolding month_head
returns g c =
    joined (both c.fill_in.ensures c.draw_span.ensures) c.fill_in-2.ensures (grind (arith, common_steps))

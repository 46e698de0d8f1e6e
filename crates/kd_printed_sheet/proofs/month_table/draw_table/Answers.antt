use Rattle.std.proofs.Common.{arith}
use Rattle.std.proofs.lemmas.Grind.{common_steps}
use Rattle.kd_pictures.proofs.Drawings.{both, joined}
unfoldable use Rattle.kd_printed_sheet.specs.MonthTable.{table_text}
use Rattle.kd_printed_sheet.proofs.month_table.draw_table.Goals as goal

pub returns : goal.returns
unfolding table_text
returns g c =
    joined (both (both c.draw_month_head.ensures c.draw_day.ensures) c.draw_rows.ensures) c.draw.ensures
    (grind (arith, common_steps))

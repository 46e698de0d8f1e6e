use Rattle.kd_pictures.proofs.Drawings.{both}
unfoldable use Rattle.kd_printed_sheet.specs.MonthTable.{row_text}
use Rattle.kd_printed_sheet.proofs.month_table.draw_row.Goals as goal

pub returns : goal.returns
unfolding row_text
returns g c =
    both c.draw_setting_cells.ensures c.draw_word_cells.ensures

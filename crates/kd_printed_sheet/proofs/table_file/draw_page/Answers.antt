use Rattle.kd_pictures.proofs.Drawings.{both}
unfoldable use Rattle.kd_printed_sheet.specs.TableFile.{page_text}
use Rattle.kd_printed_sheet.proofs.table_file.draw_page.Goals as goal

pub returns : goal.returns
unfolding page_text
returns g c =
    both (both (both (both (both (both (both c.draw_file_head.ensures c.draw_in.ensures) c.draw.ensures)
    c.draw-2.ensures) c.draw-3.ensures) c.draw_no_days.ensures) c.draw_tables.ensures) c.draw-4.ensures

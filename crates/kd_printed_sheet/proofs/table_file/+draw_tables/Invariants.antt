use Rattle.std.proofs.Common.{length}
use Rattle.kd_printed_sheet.proofs.table_file.+draw_tables.Given as goal

abbrev pub decreases-draw_tables : goal.decreases-draw_tables
decreases-draw_tables g l = length l.models.now

use Rattle.std.proofs.Common.{length}
use Rattle.kd_printed_sheet.proofs.csv_table.+draw_lines.Given as goal

abbrev pub decreases-draw_lines : goal.decreases-draw_lines
decreases-draw_lines g l = length l.numbers.now

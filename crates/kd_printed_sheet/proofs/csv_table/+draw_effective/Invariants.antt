use Rattle.std.proofs.Common.{length}
use Rattle.kd_printed_sheet.proofs.csv_table.+draw_effective.Given as goal

abbrev pub decreases-draw_effective : goal.decreases-draw_effective
decreases-draw_effective g l = length l.letters.now

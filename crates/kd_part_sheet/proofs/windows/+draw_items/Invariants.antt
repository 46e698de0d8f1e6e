use Rattle.std.proofs.Common.{length}
use Rattle.kd_part_sheet.proofs.windows.+draw_items.Given as goal

abbrev pub decreases-draw_items : goal.decreases-draw_items
decreases-draw_items g l = length l.letters.now

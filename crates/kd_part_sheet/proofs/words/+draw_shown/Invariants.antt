use Rattle.std.proofs.Common.{length}
use Rattle.kd_part_sheet.proofs.words.+draw_shown.Given as goal

abbrev pub decreases-draw_shown : goal.decreases-draw_shown
decreases-draw_shown g l = length l.letters.now

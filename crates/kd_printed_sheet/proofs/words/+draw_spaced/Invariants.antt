use Rattle.std.proofs.Common.{length}
use Rattle.kd_printed_sheet.proofs.words.+draw_spaced.Given as goal

abbrev pub decreases-draw_spaced : goal.decreases-draw_spaced
decreases-draw_spaced g l = length l.words.now

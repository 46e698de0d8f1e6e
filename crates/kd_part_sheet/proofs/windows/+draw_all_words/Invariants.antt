use Rattle.std.proofs.Common.{length}
use Rattle.kd_part_sheet.proofs.windows.+draw_all_words.Given as goal

abbrev pub decreases-draw_all_words : goal.decreases-draw_all_words
decreases-draw_all_words g l = length l.letters.now

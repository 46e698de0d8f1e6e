use Rattle.std.proofs.Common.{length}
use Rattle.kd_part_sheet.proofs.words.+draw_pairs.Given as goal

abbrev pub decreases-draw_pairs : goal.decreases-draw_pairs
decreases-draw_pairs g l = length l.pairs.now

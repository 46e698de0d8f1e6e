use Rattle.std.proofs.Common.{length}
use Rattle.kd_pictures.proofs.board.+draw_cables_after.Given as goal

abbrev pub decreases-draw_cables_after : goal.decreases-draw_cables_after
decreases-draw_cables_after g l = length l.numbers.now

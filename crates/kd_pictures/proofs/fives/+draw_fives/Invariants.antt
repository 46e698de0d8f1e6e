use Rattle.std.proofs.Common.{length}
use Rattle.kd_pictures.proofs.fives.+draw_fives.Given as goal

abbrev pub decreases-draw_fives : goal.decreases-draw_fives
decreases-draw_fives g l = length l.letters.now

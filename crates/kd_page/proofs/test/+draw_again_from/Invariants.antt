use Rattle.std.proofs.Common.{length}
use Rattle.kd_page.proofs.test.+draw_again_from.Given as goal

abbrev pub decreases-draw_again_from : goal.decreases-draw_again_from
decreases-draw_again_from g l = length l.numbers.now

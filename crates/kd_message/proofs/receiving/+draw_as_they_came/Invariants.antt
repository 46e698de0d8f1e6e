use Rattle.std.proofs.Common.{length}
use Rattle.kd_message.proofs.receiving.+draw_as_they_came.Given as goal

abbrev pub decreases-draw_as_they_came : goal.decreases-draw_as_they_came
decreases-draw_as_they_came g l = length l.parts.now

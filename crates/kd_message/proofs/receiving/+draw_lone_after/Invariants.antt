use Rattle.std.proofs.Common.{length}
use Rattle.kd_message.proofs.receiving.+draw_lone_after.Given as goal

abbrev pub decreases-draw_lone_after : goal.decreases-draw_lone_after
decreases-draw_lone_after g l = length l.parts.now

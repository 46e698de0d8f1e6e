use Rattle.std.proofs.Common.{length}
use Rattle.kd_message.proofs.groups.+draw_lost_groups.Given as goal

abbrev pub decreases-draw_lost_groups : goal.decreases-draw_lost_groups
decreases-draw_lost_groups g l = length l.letters.now

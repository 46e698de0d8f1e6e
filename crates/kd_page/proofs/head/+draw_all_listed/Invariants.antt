use Rattle.std.proofs.Common.{length}
use Rattle.kd_page.proofs.head.+draw_all_listed.Given as goal

abbrev pub decreases-draw_all_listed : goal.decreases-draw_all_listed
decreases-draw_all_listed g l = length l.days.now

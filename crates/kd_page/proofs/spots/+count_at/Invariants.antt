use Rattle.std.proofs.Common.{length}
use Rattle.kd_page.proofs.spots.+count_at.Given as goal

abbrev pub decreases-count_at : goal.decreases-count_at
decreases-count_at l = length l.settings.now

use Rattle.std.proofs.Common.{◌-◌}
use Rattle.kd_curator.proofs.run_page.+add_days_of.Given as goal

abbrev pub decreases-add_days_of : goal.decreases-add_days_of
decreases-add_days_of l = 32 - l.number

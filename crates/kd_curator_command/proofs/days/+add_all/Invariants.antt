use Rattle.std.proofs.Common.{◌-◌}
use Rattle.kd_curator_command.proofs.days.+add_all.Given as goal

abbrev pub decreases-add_all : goal.decreases-add_all
decreases-add_all l = l.last - l.first

use Rattle.std.proofs.Common.{length}
use Rattle.kd_curator_command.proofs.days.+add_ranges.Given as goal

abbrev pub decreases-add_ranges : goal.decreases-add_ranges
decreases-add_ranges l = length l.text.now

use Rattle.std.proofs.Common.{length}
use Rattle.kd_curator_command.proofs.days.+has_twice.Given as goal

abbrev pub decreases-has_twice : goal.decreases-has_twice
decreases-has_twice l = length l.days.now

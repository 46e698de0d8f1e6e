use Rattle.std.proofs.Common.{length}
use Rattle.kd_lost.proofs.clash.+uncovered_among.Given as goal

abbrev pub decreases-uncovered_among : goal.decreases-uncovered_among
decreases-uncovered_among l = length l.parts.now

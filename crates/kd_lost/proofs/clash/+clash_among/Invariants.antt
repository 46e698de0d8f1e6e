use Rattle.std.proofs.Common.{length}
use Rattle.kd_lost.proofs.clash.+clash_among.Given as goal

abbrev pub decreases-clash_among : goal.decreases-clash_among
decreases-clash_among l = length l.parts.now

use Rattle.std.proofs.Common.{length}
use Rattle.kd_lost.proofs.clash.+clash_with.Given as goal

abbrev pub decreases-clash_with : goal.decreases-clash_with
decreases-clash_with l = length l.others.now

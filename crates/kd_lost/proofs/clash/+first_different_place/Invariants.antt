use Rattle.std.proofs.Common.{length}
use Rattle.kd_lost.proofs.clash.+first_different_place.Given as goal

abbrev pub decreases-first_different_place : goal.decreases-first_different_place
decreases-first_different_place l = length l.one.now

use Rattle.std.proofs.Common.{length}
use Rattle.kd_enigma.proofs.plugs.+exchanged.Given as goal

abbrev pub decreases-exchanged : goal.decreases-exchanged
decreases-exchanged l = length l.pairs.now

use Rattle.std.proofs.Common.{length}
use Rattle.kd_pictures.proofs.board.+cable_holding.Given as goal

abbrev pub decreases-cable_holding : goal.decreases-cable_holding
decreases-cable_holding l = length l.numbers.now

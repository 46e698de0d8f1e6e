use Rattle.std.proofs.Common.{length}
use Rattle.kd_pictures.proofs.board.+has_cables.Given as goal

abbrev pub decreases-has_cables : goal.decreases-has_cables
decreases-has_cables l = length l.numbers.now

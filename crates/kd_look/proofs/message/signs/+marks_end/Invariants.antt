use Rattle.std.proofs.Common.{length}
use Rattle.kd_look.proofs.message.signs.+marks_end.Given as goal

abbrev pub decreases-marks_end : goal.decreases-marks_end
decreases-marks_end l = length l.marks.now

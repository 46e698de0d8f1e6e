use Rattle.std.proofs.Common.{length}
use Rattle.kd_part_sheet.proofs.words.+draw_wheels.Given as goal

abbrev pub decreases-draw_wheels : goal.decreases-draw_wheels
decreases-draw_wheels g l = length l.wheels.now

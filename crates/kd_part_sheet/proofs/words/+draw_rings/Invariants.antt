use Rattle.std.proofs.Common.{length}
use Rattle.kd_part_sheet.proofs.words.+draw_rings.Given as goal

abbrev pub decreases-draw_rings : goal.decreases-draw_rings
decreases-draw_rings g l = length l.wheels.now

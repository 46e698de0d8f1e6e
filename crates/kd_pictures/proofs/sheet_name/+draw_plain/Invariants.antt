use Rattle.std.proofs.Common.{length}
use Rattle.kd_pictures.proofs.sheet_name.+draw_plain.Given as goal

abbrev pub decreases-draw_plain : goal.decreases-draw_plain
decreases-draw_plain g l = length l.text.now

use Rattle.std.proofs.Common.{length}
use Rattle.kd_page.proofs.drum.+draw_cells.Given as goal

abbrev pub decreases-draw_cells : goal.decreases-draw_cells
decreases-draw_cells g l = length l.places.now

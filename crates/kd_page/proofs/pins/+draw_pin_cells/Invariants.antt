use Rattle.std.proofs.Common.{length}
use Rattle.kd_page.proofs.pins.+draw_pin_cells.Given as goal

abbrev pub decreases-draw_pin_cells : goal.decreases-draw_pin_cells
decreases-draw_pin_cells g l = length l.letters.now

use Rattle.std.proofs.Common.{length}
use Rattle.kd_part_sheet.proofs.cells.+push_pressed.Given as goal

abbrev pub decreases-push_pressed : goal.decreases-push_pressed
decreases-push_pressed g l = length l.keys.now

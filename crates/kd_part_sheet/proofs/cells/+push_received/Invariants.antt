use Rattle.std.proofs.Common.{length}
use Rattle.kd_part_sheet.proofs.cells.+push_received.Given as goal

abbrev pub decreases-push_received : goal.decreases-push_received
decreases-push_received g l = length l.keys.now

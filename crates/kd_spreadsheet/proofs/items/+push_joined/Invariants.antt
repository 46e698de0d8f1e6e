use Rattle.std.proofs.Common.{length}
use Rattle.kd_spreadsheet.proofs.items.+push_joined.Given as goal

abbrev pub decreases-push_joined : goal.decreases-push_joined
decreases-push_joined l = length l.cell.now

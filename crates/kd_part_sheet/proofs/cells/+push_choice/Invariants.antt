use Rattle.std.proofs.Common.{length}
use Rattle.kd_part_sheet.proofs.cells.+push_choice.Given as goal

abbrev pub decreases-push_choice : goal.decreases-push_choice
decreases-push_choice g l = length l.printed.now

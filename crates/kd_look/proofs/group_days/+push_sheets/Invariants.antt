use Rattle.std.proofs.Common.{length}
use Rattle.kd_look.proofs.group_days.+push_sheets.Given as goal

abbrev pub decreases-push_sheets : goal.decreases-push_sheets
decreases-push_sheets l = length l.files.now

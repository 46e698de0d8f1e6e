use Rattle.std.proofs.Common.{length}
use Rattle.kd_look.proofs.looking.+push_reports.Given as goal

abbrev pub decreases-push_reports : goal.decreases-push_reports
decreases-push_reports l = length l.files.now

use Rattle.std.proofs.Common.{length}
use Rattle.kd_spreadsheet.proofs.names.+push_plain.Given as goal

abbrev pub decreases-push_plain : goal.decreases-push_plain
decreases-push_plain l = length l.text.now

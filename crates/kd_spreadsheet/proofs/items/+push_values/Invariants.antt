use Rattle.std.proofs.Common.{length}
use Rattle.kd_spreadsheet.proofs.items.+push_values.Given as goal

abbrev pub decreases-push_values : goal.decreases-push_values
decreases-push_values g l = length l.words.now

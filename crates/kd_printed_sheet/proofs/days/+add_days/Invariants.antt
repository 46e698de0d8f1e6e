use Rattle.std.proofs.Common.{length}
use Rattle.kd_printed_sheet.proofs.days.+add_days.Given as goal

abbrev pub decreases-add_days : goal.decreases-add_days
decreases-add_days l = length l.numbers.now

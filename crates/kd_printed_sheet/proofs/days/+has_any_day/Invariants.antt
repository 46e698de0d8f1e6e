use Rattle.std.proofs.Common.{length}
use Rattle.kd_printed_sheet.proofs.days.+has_any_day.Given as goal

abbrev pub decreases-has_any_day : goal.decreases-has_any_day
decreases-has_any_day l = length l.numbers.now

use Rattle.std.proofs.Common.{length}
use Rattle.kd_printed_sheet.proofs.days.+first_of.Given as goal

abbrev pub decreases-first_of : goal.decreases-first_of
decreases-first_of l = length l.earlier.now

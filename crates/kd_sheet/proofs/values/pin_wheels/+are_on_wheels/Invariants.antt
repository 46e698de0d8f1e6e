use Rattle.std.proofs.Common.{length}
use Rattle.kd_sheet.proofs.values.pin_wheels.+are_on_wheels.Given as goal

abbrev pub decreases-are_on_wheels : goal.decreases-are_on_wheels
decreases-are_on_wheels l = length l.letters.now

use Rattle.std.proofs.Common.{length}
use Rattle.kd_findings.proofs.sheet.+have_number.Given as goal

abbrev pub decreases-have_number : goal.decreases-have_number
decreases-have_number l = length l.items.now

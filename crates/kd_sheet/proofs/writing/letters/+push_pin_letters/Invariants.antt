use Rattle.std.proofs.Common.{length}
use Rattle.kd_sheet.proofs.writing.letters.+push_pin_letters.Given as goal

abbrev pub decreases-push_pin_letters : goal.decreases-push_pin_letters
decreases-push_pin_letters l = length l.letters.now

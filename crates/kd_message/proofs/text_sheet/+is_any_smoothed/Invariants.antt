use Rattle.std.proofs.Common.{length}
use Rattle.kd_message.proofs.text_sheet.+is_any_smoothed.Given as goal

abbrev pub decreases-is_any_smoothed : goal.decreases-is_any_smoothed
decreases-is_any_smoothed l = length l.parts.now

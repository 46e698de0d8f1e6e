use Rattle.std.proofs.Common.{length}
use Rattle.kd_message.proofs.text_sheet.+draw_numbers.Given as goal

abbrev pub decreases-draw_numbers : goal.decreases-draw_numbers
decreases-draw_numbers g l = length l.parts.now

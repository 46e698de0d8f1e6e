use Rattle.std.proofs.Common.{length}
use Rattle.kd_message.proofs.sending.+draw_part_sheets.Given as goal

abbrev pub decreases-draw_part_sheets : goal.decreases-draw_part_sheets
decreases-draw_part_sheets g l = length l.left.keys.now

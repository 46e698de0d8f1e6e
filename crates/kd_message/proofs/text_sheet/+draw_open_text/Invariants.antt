use Rattle.std.proofs.Common.{length}
use Rattle.kd_message.proofs.text_sheet.+draw_open_text.Given as goal

abbrev pub decreases-draw_open_text : goal.decreases-draw_open_text
decreases-draw_open_text g l = length l.letters.now

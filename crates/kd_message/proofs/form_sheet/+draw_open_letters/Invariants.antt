use Rattle.std.proofs.Common.{length}
use Rattle.kd_message.proofs.form_sheet.+draw_open_letters.Given as goal

abbrev pub decreases-draw_open_letters : goal.decreases-draw_open_letters
decreases-draw_open_letters g l = length l.letters.now

use Rattle.std.proofs.Common.{length}
use Rattle.kd_message.proofs.text_sheet.+draw_letters_shown.Given as goal

abbrev pub decreases-draw_letters_shown : goal.decreases-draw_letters_shown
decreases-draw_letters_shown g l = length l.letters.now

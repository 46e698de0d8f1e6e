use Rattle.std.proofs.Common.{length}
use Rattle.kd_message.proofs.form_sheet.+draw_form_groups.Given as goal

abbrev pub decreases-draw_form_groups : goal.decreases-draw_form_groups
decreases-draw_form_groups g l = length l.letters.now

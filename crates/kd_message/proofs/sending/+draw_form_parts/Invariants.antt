use Rattle.std.proofs.Common.{length}
use Rattle.kd_message.proofs.sending.+draw_form_parts.Given as goal

abbrev pub decreases-draw_form_parts : goal.decreases-draw_form_parts
decreases-draw_form_parts g l = length l.left.keys.now

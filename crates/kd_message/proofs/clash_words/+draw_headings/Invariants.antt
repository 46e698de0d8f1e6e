use Rattle.std.proofs.Common.{length}
use Rattle.kd_message.proofs.clash_words.+draw_headings.Given as goal

abbrev pub decreases-draw_headings : goal.decreases-draw_headings
decreases-draw_headings g l = length l.parts.now

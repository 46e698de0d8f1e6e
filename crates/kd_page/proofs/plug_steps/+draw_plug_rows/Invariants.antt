use Rattle.std.proofs.Common.{length}
use Rattle.kd_page.proofs.plug_steps.+draw_plug_rows.Given as goal

abbrev pub decreases-draw_plug_rows : goal.decreases-draw_plug_rows
decreases-draw_plug_rows g l = length l.numbers.now

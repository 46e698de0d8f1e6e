use Rattle.std.proofs.Common.{length}
use Rattle.kd_typing_page.proofs.setting.+draw_bars.Given as goal

abbrev pub decreases-draw_bars : goal.decreases-draw_bars
decreases-draw_bars g l = length l.bars.now

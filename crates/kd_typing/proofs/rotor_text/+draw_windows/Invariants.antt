use Rattle.std.proofs.Common.{length}
use Rattle.kd_typing.proofs.rotor_text.+draw_windows.Given as goal

abbrev pub decreases-draw_windows : goal.decreases-draw_windows
decreases-draw_windows g l = length l.wheels.now

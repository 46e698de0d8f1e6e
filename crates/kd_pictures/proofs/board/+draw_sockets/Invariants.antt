use Rattle.std.proofs.Common.{length}
use Rattle.kd_pictures.proofs.board.+draw_sockets.Given as goal

abbrev pub decreases-draw_sockets : goal.decreases-draw_sockets
decreases-draw_sockets g l = length l.letters.now

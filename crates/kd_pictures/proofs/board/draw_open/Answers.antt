use Rattle.kd_pictures.proofs.Drawings.{both}
use Rattle.kd_pictures.proofs.board.draw_open.Goals as goal

pub returns : goal.returns
returns g c =
    both c.draw_left_half.ensures c.draw_open_end.ensures

use Rattle.kd_pictures.proofs.Drawings.{both}
unfoldable use Rattle.kd_pictures.specs.Board.{board_text}
use Rattle.kd_pictures.proofs.board.draw_board.Goals as goal

pub returns : goal.returns
unfolding board_text
returns g c =
    both (both (both (both (both c.draw_board_head.ensures c.draw_all_cables.ensures) c.draw.ensures)
    c.draw_lines.ensures) c.draw_sockets.ensures) c.draw-2.ensures

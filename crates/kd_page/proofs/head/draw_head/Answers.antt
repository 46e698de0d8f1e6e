use Rattle.kd_pictures.proofs.Drawings.{both}
unfoldable use Rattle.kd_page.specs.Head.{head_text}
use Rattle.kd_page.proofs.head.draw_head.Goals as goal

pub returns : goal.returns
unfolding head_text
returns g c =
    both (both (both (both c.draw_file_head.ensures c.draw_title.ensures) c.draw.ensures) c.draw-2.ensures)
    c.draw_nav.ensures

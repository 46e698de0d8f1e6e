use Rattle.kd_pictures.proofs.Drawings.{both}
unfoldable use Rattle.kd_page.specs.Head.{list_of_days}
use Rattle.kd_page.proofs.head.draw_list_of_days.Goals as goal

pub returns : goal.returns
unfolding list_of_days
returns g c =
    both (both (both (both (both c.draw_in.ensures c.draw_title.ensures) c.draw.ensures) c.draw_listed.ensures)
    c.draw_all_listed.ensures) c.draw-2.ensures

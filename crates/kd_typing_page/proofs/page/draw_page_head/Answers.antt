use Rattle.kd_pictures.proofs.Drawings.{both}
unfoldable use Rattle.kd_typing_page.specs.TypingPage.{page_head}
use Rattle.kd_typing_page.proofs.page.draw_page_head.Goals as goal

pub returns : goal.returns
unfolding page_head
returns g c =
    both (both (both (both c.draw_file_head.ensures c.fill_in.ensures) c.draw.ensures) c.draw-2.ensures) c.draw-3.ensures

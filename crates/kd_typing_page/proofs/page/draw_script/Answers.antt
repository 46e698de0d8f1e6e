use Rattle.kd_pictures.proofs.Drawings.{both}
unfoldable use Rattle.kd_typing_page.specs.TypingPage.{script_text}
use Rattle.kd_typing_page.proofs.page.draw_script.Goals as goal

pub returns : goal.returns
unfolding script_text
returns g c = both (both c.draw.ensures c.draw-2.ensures) c.draw-3.ensures

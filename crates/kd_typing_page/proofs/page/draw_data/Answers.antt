use Rattle.kd_pictures.proofs.Drawings.{both}
unfoldable use Rattle.kd_typing_page.specs.TypingPage.{data_text}
use Rattle.kd_typing_page.proofs.page.draw_data.Goals as goal

pub returns : goal.returns
unfolding data_text
returns g c = both (both c.draw.ensures c.draw_shown.ensures) c.draw_script_words.ensures

use Rattle.kd_pictures.proofs.Drawings.{both}
unfoldable use Rattle.kd_typing_page.specs.Setting.{rotor_setting}
use Rattle.kd_typing_page.proofs.setting.draw_rotor_setting.Goals as goal

pub returns : goal.returns
unfolding rotor_setting
returns g c =
    both (both (both (both c.draw_in.ensures c.draw_words.ensures) c.draw_in-2.ensures) c.draw_all_cables.ensures)
    c.draw.ensures

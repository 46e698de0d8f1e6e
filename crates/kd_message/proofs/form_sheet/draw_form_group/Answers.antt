use Rattle.kd_pictures.proofs.Drawings.{both}
use Rattle.kd_message.proofs.form_sheet.draw_form_group.Goals as goal

pub returns : goal.returns
returns g c =
    both (both c.draw.ensures c.draw_letters_with.ensures) c.draw-2.ensures

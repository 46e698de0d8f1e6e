use Rattle.kd_pictures.proofs.Drawings.{both}
use Rattle.kd_message.proofs.form_sheet.draw_form_head.Goals as goal

pub returns : goal.returns
returns g c = both (both c.draw.ensures c.draw_form_number.ensures) c.draw_form_title.ensures

use Rattle.std.proofs.Common.{arith}
use Rattle.std.proofs.lemmas.Grind.{common_steps}
use Rattle.kd_pictures.proofs.Drawings.{both, joined}
unfoldable use Rattle.kd_message.specs.FormSheet.{keys_text}
use Rattle.kd_message.proofs.form_sheet.draw_keys.Goals as goal

pub returns : goal.returns
unfolding keys_text
returns g c =
    joined (both (both (both c.draw_in.ensures c.draw_letters.ensures) c.draw_in-2.ensures)
    c.draw_letters_with.ensures) c.draw.ensures
    (grind (arith, common_steps))

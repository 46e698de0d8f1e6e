use Rattle.std.proofs.Common.{arith}
use Rattle.std.proofs.lemmas.Grind.{common_steps}
use Rattle.kd_pictures.proofs.Drawings.{both, joined}
unfoldable use Rattle.kd_message.specs.FormSheet.{form_part}
use Rattle.kd_message.proofs.form_sheet.draw_form_part.Goals as goal

pub returns : goal.returns
unfolding form_part
returns g c =
    joined (both (both (both c.draw_part_head.ensures c.draw_indicator.ensures) c.draw.ensures) c.draw_form_groups.ensures) c.draw-2.ensures
    (grind (arith, common_steps))

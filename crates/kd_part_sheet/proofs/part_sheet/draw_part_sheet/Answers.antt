use Rattle.std.proofs.Common.{arith}
use Rattle.std.proofs.lemmas.Grind.{common_steps}
use Rattle.kd_pictures.proofs.Drawings.{both, joined}
unfoldable use Rattle.kd_part_sheet.specs.PartSheet.{part_sheet}
use Rattle.kd_part_sheet.proofs.part_sheet.draw_part_sheet.Goals as goal

pub returns : goal.returns
unfolding part_sheet
returns g c =
    joined (both (both (both (both (both (both c.draw_head.ensures c.draw_day_key.ensures) c.draw.ensures)
    c.draw_if.ensures) c.draw_key_step.ensures) c.draw_text_step.ensures) c.draw-2.ensures) c.draw-3.ensures
    (grind (arith, common_steps))

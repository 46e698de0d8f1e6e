use Rattle.std.proofs.Common.{arith}
use Rattle.std.proofs.lemmas.Grind.{common_steps}
use Rattle.kd_pictures.proofs.Drawings.{both, joined}
unfoldable use Rattle.kd_part_sheet.specs.PartSheet.{text_step}
use Rattle.kd_part_sheet.proofs.part_sheet.draw_text_step.Goals as goal

pub returns : goal.returns
unfolding text_step
returns g c =
    joined (both (both c.draw_text_head.ensures c.draw_start.ensures) c.draw_warnings.ensures) c.draw_text_rows.ensures
    (grind (arith, common_steps))

use Rattle.std.proofs.Common.{arith}
use Rattle.std.proofs.lemmas.Grind.{common_steps}
use Rattle.kd_pictures.proofs.Drawings.{both, joined}
unfoldable use Rattle.kd_part_sheet.specs.PartSheet.{key_step}
use Rattle.kd_part_sheet.proofs.part_sheet.draw_key_step.Goals as goal

pub returns : goal.returns
unfolding key_step
returns g c =
    joined (both (both (both c.fill_name.ensures c.draw_windows.ensures) c.draw.ensures) c.draw_rows.ensures) c.draw-2.ensures
    (grind (arith, common_steps))

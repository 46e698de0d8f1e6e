use Rattle.std.proofs.Common.{arith}
use Rattle.std.proofs.lemmas.Grind.{common_steps}
use Rattle.kd_pictures.proofs.Drawings.{both, joined}
use Rattle.kd_page.proofs.plug_steps.draw_plug_row.Goals as goal

pub returns-then-count_at-ne0 : goal.returns-then-count_at-ne0
returns-then-count_at-ne0 g c =
    joined (both c.fill.ensures c.draw_boxes.ensures) c.draw.ensures (grind (arith, common_steps))

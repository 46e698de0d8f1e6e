use Rattle.std.proofs.Common.{arith}
use Rattle.std.proofs.lemmas.Grind.{common_steps}
use Rattle.kd_pictures.proofs.Drawings.{both, joined}
unfoldable use Rattle.kd_page.specs.PlugSteps.{plug_table}
use Rattle.kd_page.proofs.plug_steps.draw_plug_table.Goals as goal

pub returns : goal.returns
unfolding plug_table
returns g c =
    joined (both c.draw_in.ensures c.draw_plug_rows.ensures) c.draw.ensures (grind (arith, common_steps))

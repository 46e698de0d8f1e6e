use Rattle.std.proofs.Common.{arith}
use Rattle.std.proofs.lemmas.Grind.{common_steps}
use Rattle.kd_pictures.proofs.Drawings.{both, joined}
unfoldable use Rattle.kd_page.specs.PlugSteps.{plugs_in}
use Rattle.kd_page.proofs.plug_steps.draw_plugs_in.Goals as goal

pub returns : goal.returns
unfolding plugs_in
returns g c =
    joined (both (both c.draw_step.ensures c.draw_board.ensures) c.draw_in_table.ensures) c.draw.ensures
    (grind (arith, common_steps))

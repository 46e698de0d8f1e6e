use Rattle.std.proofs.Common.{arith}
use Rattle.std.proofs.lemmas.Grind.{common_steps}
use Rattle.kd_pictures.proofs.Drawings.{joined}
unfoldable use Rattle.kd_page.specs.Test.{again_all}
use Rattle.kd_page.proofs.test.draw_again_all.Goals as goal

pub returns : goal.returns
unfolding again_all
returns g c =
    joined c.draw_again_at.ensures c.draw_again_from.ensures (grind (arith, common_steps))

use Rattle.std.proofs.Common.{arith}
use Rattle.std.proofs.lemmas.Grind.{common_steps}
use Rattle.kd_pictures.proofs.Drawings.{joined}
use Rattle.kd_page.proofs.test.draw_again_at.Goals as goal

pub returns-in-Some : goal.returns-in-Some
returns-in-Some g c =
    joined c.draw.ensures c.draw_again.ensures (grind (arith, common_steps))

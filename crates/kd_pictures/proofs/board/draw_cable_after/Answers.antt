use Rattle.std.proofs.Common.{arith}
use Rattle.std.proofs.lemmas.Grind.{common_steps}
use Rattle.kd_pictures.proofs.Drawings.{joined}
use Rattle.kd_pictures.proofs.board.draw_cable_after.Goals as goal

pub returns : goal.returns
returns g c =
    joined c.draw.ensures c.draw_cable_words.ensures (grind (arith, common_steps))

use Rattle.std.proofs.Common.{arith}
use Rattle.std.proofs.lemmas.Grind.{common_steps}
use Rattle.kd_pictures.proofs.Drawings.{joined}
use Rattle.kd_page.proofs.pins.draw_pin_head.Goals as goal

pub returns : goal.returns
returns g c =
    joined c.fill_in.ensures c.draw_pin_lines.ensures (grind (arith, common_steps))

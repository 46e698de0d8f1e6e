use Rattle.std.proofs.Common.{arith}
use Rattle.std.proofs.lemmas.Grind.{common_steps}
use Rattle.kd_pictures.proofs.Drawings.{joined}
use Rattle.kd_page.proofs.wheel_steps.+draw_boxed_wheels.Goals as goal

pub returns-in-len1-up : goal.returns-in-len1-up
returns-in-len1-up g t c =
    joined c.draw_boxed_wheel.ensures c.draw_boxed_wheels.ensures (grind (arith, common_steps))

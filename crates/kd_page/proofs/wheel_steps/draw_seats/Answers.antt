use Rattle.std.proofs.Common.{arith}
use Rattle.std.proofs.lemmas.Grind.{common_steps}
use Rattle.kd_pictures.proofs.Drawings.{both, joined}
unfoldable use Rattle.kd_page.specs.WheelSteps.{some_seats_text}
use Rattle.kd_page.proofs.wheel_steps.draw_seats.Goals as goal

pub returns : goal.returns
unfolding some_seats_text
returns g c =
    joined (both c.draw_step.ensures c.draw_boxed.ensures) c.draw_list.ensures (grind (arith, common_steps))

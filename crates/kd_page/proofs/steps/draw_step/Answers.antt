use Rattle.std.proofs.Common.{arith}
use Rattle.std.proofs.lemmas.Grind.{common_steps}
use Rattle.kd_pictures.proofs.Drawings.{joined}
unfoldable use Rattle.kd_page.specs.Steps.{step_text}
use Rattle.kd_page.proofs.steps.draw_step.Goals as goal

pub returns : goal.returns
unfolding step_text
returns g c =
    joined c.fill.ensures c.draw_titled.ensures (grind (arith, common_steps))

use Rattle.std.proofs.Common.{arith}
use Rattle.std.proofs.lemmas.Grind.{common_steps}
use Rattle.kd_pictures.proofs.Drawings.{joined}
unfoldable use Rattle.kd_page.specs.Steps.{titled_text}
use Rattle.kd_page.proofs.steps.draw_titled.Goals as goal

pub returns : goal.returns
unfolding titled_text
returns g c =
    joined c.draw_page_title.ensures c.draw.ensures (grind (arith, common_steps))

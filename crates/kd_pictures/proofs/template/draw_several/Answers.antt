use Rattle.kd_pictures.proofs.Drawings.{joined}
use Rattle.std.proofs.Common.{arith}
use Rattle.std.proofs.lemmas.Grind.{common_steps}
use Rattle.kd_pictures.proofs.template.draw_several.Goals as goal

pub returns : goal.returns
returns g c = joined c.draw.ensures c.draw_in.ensures (grind (arith, common_steps))

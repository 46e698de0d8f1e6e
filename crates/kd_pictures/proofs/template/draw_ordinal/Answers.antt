use Rattle.std.proofs.Common.{arith}
use Rattle.std.proofs.lemmas.Grind.{common_steps}
use Rattle.kd_pictures.proofs.Drawings.{joined}
use Rattle.kd_pictures.proofs.template.draw_ordinal.Goals as goal

pub returns : goal.returns
returns g c = joined c.draw_zero.ensures c.draw.ensures (grind (arith, common_steps))

use Rattle.std.proofs.Common.{arith}
use Rattle.std.proofs.lemmas.Grind.{common_steps}
use Rattle.kd_pictures.proofs.Drawings.{joined}
use Rattle.kd_typing_page.proofs.setting.draw_wheel_pins.Goals as goal

pub returns : goal.returns
returns g c = joined c.fill_in.ensures c.draw_effective.ensures (grind (arith, common_steps))

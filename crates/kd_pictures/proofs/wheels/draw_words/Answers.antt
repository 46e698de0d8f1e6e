use Rattle.std.proofs.Common.{arith}
use Rattle.std.proofs.lemmas.Grind.{common_steps}
use Rattle.kd_pictures.proofs.Drawings.{joined}
unfoldable use Rattle.kd_pictures.specs.Wheels.{machine_words}
use Rattle.kd_pictures.proofs.wheels.draw_words.Goals as goal

pub returns : goal.returns
unfolding machine_words
returns g c =
    joined c.draw_reflector_words.ensures c.draw_all_slot_words.ensures (grind (arith, common_steps))

use Rattle.std.proofs.Common.{arith}
use Rattle.std.proofs.lemmas.Grind.{common_steps}
use Rattle.kd_pictures.proofs.Drawings.{both, joined}
use Rattle.kd_pictures.proofs.wheels.draw_wheel_words.Goals as goal

pub returns : goal.returns
returns g c =
    joined (both c.fill_in.ensures c.draw_letter_words.ensures) c.draw_letter_words-2.ensures (grind (
      arith,
      common_steps,
    ))

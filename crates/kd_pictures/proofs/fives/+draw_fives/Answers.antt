use Rattle.std.proofs.Common.{arith}
use Rattle.std.proofs.lemmas.Grind.{common_steps}
use Rattle.kd_pictures.proofs.Drawings.{both, joined}
use Rattle.kd_pictures.proofs.fives.+draw_fives.Goals as goal

pub returns-in-len1-up : goal.returns-in-len1-up
returns-in-len1-up g t c =
    joined (both c.draw_letter.ensures c.draw_gap.ensures) c.draw_fives.ensures (grind (arith, common_steps))

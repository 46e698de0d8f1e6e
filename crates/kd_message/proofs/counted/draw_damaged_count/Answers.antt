use Rattle.std.proofs.Common.{arith}
use Rattle.std.proofs.lemmas.Grind.{common_steps}
use Rattle.kd_pictures.proofs.Drawings.{both, joined}
unfoldable use Rattle.kd_message.specs.TextSheet.{damaged_count}
use Rattle.kd_message.proofs.counted.draw_damaged_count.Goals as goal

pub returns : goal.returns
unfolding damaged_count
returns g c =
    joined (both (both c.draw_line_words.ensures c.draw_in.ensures) c.draw_count.ensures) c.draw_in-2.ensures
    (grind (arith, common_steps))

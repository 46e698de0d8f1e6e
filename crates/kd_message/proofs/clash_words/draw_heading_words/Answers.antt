use Rattle.std.proofs.Common.{arith}
use Rattle.std.proofs.lemmas.Grind.{common_steps}
use Rattle.kd_pictures.proofs.Drawings.{both, joined}
unfoldable use Rattle.kd_message.specs.ClashWords.{heading_words}
use Rattle.kd_message.proofs.clash_words.draw_heading_words.Goals as goal

pub returns : goal.returns
unfolding heading_words
returns g c =
    joined (both c.draw_count.ensures c.draw.ensures) c.draw_count-2.ensures
    (grind (arith, common_steps))

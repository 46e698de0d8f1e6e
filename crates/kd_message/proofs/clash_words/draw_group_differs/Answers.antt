use Rattle.std.proofs.Common.{arith}
use Rattle.std.proofs.lemmas.Grind.{common_steps}
use Rattle.kd_pictures.proofs.Drawings.{joined}
unfoldable use Rattle.kd_message.specs.ClashWords.{group_differs}
use Rattle.kd_message.proofs.clash_words.draw_group_differs.Goals as goal

pub returns : goal.returns
unfolding group_differs
returns g c =
    joined c.draw_in.ensures
    c.draw_count.ensures
    (grind (arith, common_steps))

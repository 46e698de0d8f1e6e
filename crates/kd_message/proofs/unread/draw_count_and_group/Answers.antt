use Rattle.std.proofs.Common.{arith}
use Rattle.std.proofs.lemmas.Grind.{common_steps}
use Rattle.kd_pictures.proofs.Drawings.{both, joined}
use Rattle.kd_message.proofs.unread.draw_count_and_group.Goals as goal

pub returns : goal.returns
returns g c =
    joined (both c.draw_in.ensures c.draw.ensures) c.draw_group_words.ensures
    (grind (arith, common_steps))

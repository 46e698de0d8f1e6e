use Rattle.std.proofs.Common.{arith}
use Rattle.std.proofs.lemmas.Grind.{common_steps}
use Rattle.kd_pictures.proofs.Drawings.{joined}
use Rattle.kd_message.proofs.groups.draw_group_words.Goals as goal

pub returns : goal.returns
returns g c =
    joined c.draw_in.ensures c.draw_count.ensures
    (grind (arith, common_steps))

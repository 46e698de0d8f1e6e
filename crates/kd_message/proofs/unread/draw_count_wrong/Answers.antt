use Rattle.std.proofs.Common.{arith}
use Rattle.std.proofs.lemmas.Grind.{common_steps}
use Rattle.kd_pictures.proofs.Drawings.{joined}
unfoldable use Rattle.kd_message.specs.TextSheet.{count_text}
use Rattle.kd_message.proofs.unread.draw_count_wrong.Goals as goal

pub returns : goal.returns
unfolding count_text
returns g c =
    joined c.draw_counts.ensures c.draw_short.ensures
    (grind (arith, common_steps))

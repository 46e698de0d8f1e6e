use Rattle.std.proofs.Common.{arith}
use Rattle.std.proofs.lemmas.Grind.{common_steps}
use Rattle.kd_pictures.proofs.Drawings.{both, joined}
unfoldable use Rattle.kd_message.specs.TextSheet.{indicator_groups}
use Rattle.kd_message.proofs.unread.draw_indicator_groups.Goals as goal

pub returns : goal.returns
unfolding indicator_groups
returns g c =
    joined (both c.draw_groups_words.ensures c.draw.ensures) c.draw_groups_words-2.ensures
    (grind (arith, common_steps))

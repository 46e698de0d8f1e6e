use Rattle.std.proofs.Common.{arith}
use Rattle.std.proofs.lemmas.Grind.{common_steps}
use Rattle.kd_pictures.proofs.Drawings.{both, joined}
use Rattle.kd_message.proofs.groups.+draw_lost_groups.Goals as goal

pub returns-then-not-before : goal.returns-then-not-before
returns-then-not-before g t c =
    joined (both c.draw.ensures c.draw_range.ensures) c.draw_lost_groups.ensures
    (grind (arith, common_steps))

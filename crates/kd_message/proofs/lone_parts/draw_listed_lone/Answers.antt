use Rattle.std.proofs.Common.{arith}
use Rattle.std.proofs.lemmas.Grind.{common_steps}
use Rattle.kd_pictures.proofs.Drawings.{both, joined}
unfoldable use Rattle.kd_message.specs.LoneParts.{listed_lone}
use Rattle.kd_message.proofs.lone_parts.draw_listed_lone.Goals as goal

pub returns : goal.returns
unfolding listed_lone
returns g c =
    joined (both c.draw.ensures c.draw_lone_words.ensures) c.draw_in.ensures
    (grind (arith, common_steps))

use Rattle.std.proofs.Common.{arith}
use Rattle.std.proofs.lemmas.Grind.{common_steps}
use Rattle.std.proofs.lemmas.List.{length-map}
use Rattle.kd_pictures.proofs.Drawings.{both, joined}
unfoldable use Rattle.kd_message.specs.SendBooklet.{booklet_head}
use Rattle.kd_message.proofs.booklet.draw_booklet_head.Goals as goal

pub returns : goal.returns
unfolding booklet_head
returns g c =
    joined (both (both c.draw_title.ensures c.fill_in.ensures) c.draw_listed_orders.ensures) c.draw.ensures
    (grind (arith, common_steps, length-map))

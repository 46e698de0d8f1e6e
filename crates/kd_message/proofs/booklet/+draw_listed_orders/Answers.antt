use Rattle.std.proofs.Common.{arith}
use Rattle.std.proofs.lemmas.Grind.{common_steps}
use Rattle.kd_pictures.proofs.Drawings.{both, joined}
use Rattle.kd_message.proofs.booklet.+draw_listed_orders.Goals as goal

pub returns-in-Some : goal.returns-in-Some
returns-in-Some g t c =
    joined (both (both c.fill.ensures c.draw_sheet_name.ensures) c.draw.ensures) c.draw_listed_orders.ensures
    (grind (arith, common_steps))

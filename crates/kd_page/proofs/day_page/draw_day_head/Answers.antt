use Rattle.std.proofs.Common.{arith}
use Rattle.std.proofs.lemmas.Grind.{common_steps}
use Rattle.kd_pictures.proofs.Drawings.{both, joined}
unfoldable use Rattle.kd_page.specs.DayPage.{day_head}
use Rattle.kd_page.proofs.day_page.draw_day_head.Goals as goal

pub returns : goal.returns
unfolding day_head
returns g c =
    joined (both c.fill.ensures c.draw_page_title.ensures) c.fill_in.ensures
    (grind (arith, common_steps))

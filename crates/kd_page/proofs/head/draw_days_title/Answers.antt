use Rattle.std.proofs.Common.{arith}
use Rattle.std.proofs.lemmas.Grind.{common_steps}
use Rattle.kd_pictures.proofs.Drawings.{joined}
unfoldable use Rattle.kd_page.specs.Head.{days_title}
use Rattle.kd_page.proofs.head.draw_days_title.Goals as goal

pub returns : goal.returns
unfolding days_title
returns g c =
    joined c.fill_in.ensures c.draw_sheet_name.ensures (grind (arith, common_steps))

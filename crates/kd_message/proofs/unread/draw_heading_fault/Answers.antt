use Rattle.std.proofs.Common.{arith}
use Rattle.std.proofs.lemmas.Grind.{common_steps}
use Rattle.kd_pictures.proofs.Drawings.{joined}
unfoldable use Rattle.kd_message.specs.TextSheet.{heading_fault}
use Rattle.kd_message.proofs.unread.draw_heading_fault.Goals as goal

pub returns : goal.returns
unfolding heading_fault
returns g c =
    joined c.draw_line_words.ensures c.draw.ensures
    (grind (arith, common_steps))

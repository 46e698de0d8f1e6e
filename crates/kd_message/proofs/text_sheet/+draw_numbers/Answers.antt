use Rattle.std.proofs.Common.{arith}
use Rattle.std.proofs.lemmas.Grind.{common_steps}
use Rattle.kd_pictures.proofs.Drawings.{both, joined}
use Rattle.kd_message.proofs.text_sheet.+draw_numbers.Goals as goal

pub returns-in-Some : goal.returns-in-Some
returns-in-Some g t c =
    joined (both c.draw.ensures c.draw_count.ensures) c.draw_numbers.ensures
    (grind (arith, common_steps))

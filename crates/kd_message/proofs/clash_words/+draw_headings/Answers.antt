use Rattle.std.proofs.Common.{arith}
use Rattle.std.proofs.lemmas.Grind.{common_steps}
use Rattle.kd_pictures.proofs.Drawings.{both, joined}
use Rattle.kd_message.proofs.clash_words.+draw_headings.Goals as goal

pub returns-in-Some : goal.returns-in-Some
returns-in-Some g t c =
    joined (both c.draw.ensures c.draw_heading_words.ensures) c.draw_headings.ensures
    (grind (arith, common_steps))

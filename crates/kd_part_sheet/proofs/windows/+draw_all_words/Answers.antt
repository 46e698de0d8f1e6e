use Rattle.std.proofs.Common.{arith}
use Rattle.std.proofs.lemmas.Grind.{common_steps}
use Rattle.kd_pictures.proofs.Drawings.{both, joined}
use Rattle.kd_part_sheet.proofs.windows.+draw_all_words.Goals as goal

pub returns-in-len1-up : goal.returns-in-len1-up
returns-in-len1-up g t c =
    joined (both c.draw.ensures c.draw_words.ensures) c.draw_all_words.ensures (grind (arith, common_steps))

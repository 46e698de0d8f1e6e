use Rattle.std.proofs.Common.{arith}
use Rattle.std.proofs.lemmas.Grind.{common_steps}
use Rattle.kd_pictures.proofs.Drawings.{both, joined}
use Rattle.kd_printed_sheet.proofs.words.+draw_spaced.Goals as goal

pub returns-in-len1-up : goal.returns-in-len1-up
returns-in-len1-up g t c =
    joined (both c.draw.ensures c.draw_word.ensures) c.draw_spaced.ensures (grind (arith, common_steps))

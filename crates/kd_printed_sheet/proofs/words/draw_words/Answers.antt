use Rattle.std.proofs.Common.{arith}
use Rattle.std.proofs.lemmas.Grind.{common_steps}
use Rattle.kd_pictures.proofs.Drawings.{joined}
use Rattle.kd_printed_sheet.proofs.words.draw_words.Goals as goal

pub returns-in-len1-up : goal.returns-in-len1-up
returns-in-len1-up g c =
    joined c.draw_word.ensures c.draw_spaced.ensures (grind (arith, common_steps))

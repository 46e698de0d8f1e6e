-- Words of letters have no markup.
use Rattle.std.proofs.Common.{arith, [], ◌∷◌}
use Rattle.std.proofs.lemmas.Grind.{common_steps}
use Rattle.kd_printed_sheet.specs.Plain.{WordsArePlain}

pub words_are_plain : WordsArePlain
words_are_plain [] = grind (arith, common_steps)
words_are_plain (letter ∷ letters) = grind (arith, common_steps, words_are_plain letters)

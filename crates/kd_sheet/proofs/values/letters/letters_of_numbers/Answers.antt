use Rattle.std.proofs.Common.{arith}
use Rattle.std.proofs.lemmas.Grind.{common_steps}
use Rattle.kd_sheet.proofs.values.letters.letters_of_numbers.Goals as goal

pub loop-item-preserved : goal.loop-item-preserved
loop-item-preserved c = grind (arith, common_steps)

pub returns : goal.returns
returns c = grind (arith, common_steps)

pub returns-in_err-letter_of_number : goal.returns-in_err-letter_of_number
returns-in_err-letter_of_number c = grind (arith, common_steps)

pub returns-then-items-from : goal.returns-then-items-from
returns-then-items-from c = grind (arith, common_steps)

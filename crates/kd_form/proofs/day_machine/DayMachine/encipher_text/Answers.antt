use Rattle.kd_form.proofs.MadeParts.{arith, common_steps, enciphered_letters}
use Rattle.kd_form.proofs.day_machine.DayMachine.encipher_text.Goals as goal

pub returns-clause-text : goal.returns-clause-text
returns-clause-text g c = grind (arith, common_steps)

pub returns-clause-letters : goal.returns-clause-letters
returns-clause-letters g c = grind (arith, common_steps, enciphered_letters)

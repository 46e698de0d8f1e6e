use Rattle.kd_form.proofs.MadeParts.{arith, length-append, append_assoc, enciphered_length}
use Rattle.kd_form.proofs.sending.part.rotor_letters.Goals as goal

pub append_letters-requires-2 : goal.append_letters-requires-2
append_letters-requires-2 c = grind (arith, length-append)

pub append_letters-requires-3 : goal.append_letters-requires-3
append_letters-requires-3 c = grind (arith, length-append, enciphered_length)

pub returns-clause-value : goal.returns-clause-value
returns-clause-value c = grind (arith, append_assoc)

pub returns-clause-few : goal.returns-clause-few
returns-clause-few c = grind (arith, length-append, enciphered_length)

use Rattle.kd_form.proofs.MadeParts.{arith, length-append}
use Rattle.kd_form.proofs.sending.part.pin_letters.Goals as goal

pub append_letters-requires-2 : goal.append_letters-requires-2
append_letters-requires-2 c = grind (arith, length-append)

pub append_letters-requires-3 : goal.append_letters-requires-3
append_letters-requires-3 c = grind (arith, length-append)

pub returns-clause-few : goal.returns-clause-few
returns-clause-few c = grind (arith, length-append)

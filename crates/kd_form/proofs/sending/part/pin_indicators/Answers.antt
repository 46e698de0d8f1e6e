use Rattle.kd_form.proofs.MadeParts.{arith, append_assoc, length-append}
use Rattle.kd_form.proofs.sending.part.pin_indicators.Goals as goal

pub append_letters-requires : goal.append_letters-requires
append_letters-requires c = grind (arith, length-append)

pub append_letters-requires-2 : goal.append_letters-requires-2
append_letters-requires-2 c = grind (arith, length-append)

pub returns-clause-value : goal.returns-clause-value
returns-clause-value c = grind (arith, append_assoc)

pub returns-clause-ten : goal.returns-clause-ten
returns-clause-ten c = grind (arith, length-append)

use Rattle.kd_form.proofs.MadeParts.{arith, enciphered_length}
use Rattle.kd_form.proofs.sending.part.indicator_of.Goals as goal

pub unwrap-requires : goal.unwrap-requires
unwrap-requires c = grind (arith, enciphered_length)

pub returns-clause-value : goal.returns-clause-value
returns-clause-value c = grind (arith, enciphered_length)

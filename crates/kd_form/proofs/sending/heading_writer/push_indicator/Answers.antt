use Rattle.kd_form.proofs.MadeParts.{arith, append_assoc, append-nil}
use Rattle.kd_form.proofs.sending.heading_writer.push_indicator.Goals as goal

pub push_str-requires-in-Some : goal.push_str-requires-in-Some
push_str-requires-in-Some g c = grind arith

pub push_letters-requires-in-Some : goal.push_letters-requires-in-Some
push_letters-requires-in-Some g c = grind arith

pub returns-in-Some-clause-bytes : goal.returns-in-Some-clause-bytes
returns-in-Some-clause-bytes g c = grind (arith, append_assoc, append-nil)

pub returns-in-Some-clause-len : goal.returns-in-Some-clause-len
returns-in-Some-clause-len g c = grind arith

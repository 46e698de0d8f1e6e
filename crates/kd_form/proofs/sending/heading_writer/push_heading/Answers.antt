use Rattle.kd_form.proofs.MadeParts.{arith, heading_line}
use Rattle.kd_form.proofs.sending.heading_writer.push_heading.Goals as goal

pub push_indicator-requires : goal.push_indicator-requires
push_indicator-requires g c = grind arith

pub push_str-requires-5 : goal.push_str-requires-5
push_str-requires-5 g c = grind arith

pub returns-clause-bytes : goal.returns-clause-bytes
returns-clause-bytes g c = grind (arith, heading_line)

pub returns-clause-len : goal.returns-clause-len
returns-clause-len g c = grind arith

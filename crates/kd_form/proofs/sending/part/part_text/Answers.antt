use Rattle.kd_form.proofs.MadeParts.{arith, append_assoc}
use Rattle.kd_form.proofs.sending.part.part_text.Goals as goal

pub push_body-requires : goal.push_body-requires
push_body-requires c = grind arith

pub returns : goal.returns
returns c = grind (arith, append_assoc)

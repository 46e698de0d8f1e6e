use Rattle.kd_form.proofs.Prelude.{arith, length-append, length-replicate}
use Rattle.kd_form.proofs.sending.part.fill_last_group.Goals as goal

pub push-requires : goal.push-requires
push-requires c = grind (arith, length-append, length-replicate)

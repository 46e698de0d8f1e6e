use Rattle.kd_form.proofs.Prelude.{arith, common_steps, append_assoc}
use Rattle.kd_form.proofs.sending.body_writer.push_letters.Goals as goal

pub loop-letter-preserved : goal.loop-letter-preserved
loop-letter-preserved g c = grind (arith, common_steps, append_assoc)

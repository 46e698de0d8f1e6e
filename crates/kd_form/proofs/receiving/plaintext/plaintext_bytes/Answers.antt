use Rattle.kd_form.proofs.Prelude.{arith, common_steps, take_all}
use Rattle.kd_form.proofs.receiving.plaintext.plaintext_bytes.Goals as goal

pub loop-letter-preserved : goal.loop-letter-preserved
loop-letter-preserved g c = grind (arith, common_steps)

pub returns : goal.returns
returns g c = grind (arith, take_all)

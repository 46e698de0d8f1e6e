use Rattle.kd_form.proofs.Prelude.{length}
use Rattle.kd_form.proofs.sending.body_writer.+push_body.Given as goal

abbrev pub decreases-push_body : goal.decreases-push_body
decreases-push_body g l = length l.letters.now

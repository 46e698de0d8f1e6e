use Rattle.kd_form.proofs.Prelude.{length}
use Rattle.kd_form.proofs.sending.body_writer.+push_groups.Given as goal

abbrev pub decreases-push_groups : goal.decreases-push_groups
decreases-push_groups g l = length l.letters.now

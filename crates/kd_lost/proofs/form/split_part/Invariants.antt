use Rattle.kd_lost.proofs.Forms.{IsCutTo}
use Rattle.kd_lost.proofs.form.split_part.Given as goal

abbrev pub invariant-loop-index : goal.invariant-loop-index
invariant-loop-index l = IsCutTo l.form l.index

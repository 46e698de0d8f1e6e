use Rattle.kd_look.proofs.message.form.+form_from.Given as goal

abbrev pub decreases-form_from : goal.decreases-form_from
decreases-form_from l = l.left

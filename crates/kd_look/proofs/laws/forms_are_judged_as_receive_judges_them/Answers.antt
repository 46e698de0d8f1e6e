use Rattle.kd_look.proofs.Forms.{faultless_forms_agree, form_faults_agree}
use Rattle.kd_look.proofs.laws.forms_are_judged_as_receive_judges_them.Goals as goal

pub returns : goal.returns
returns c = record { faults = form_faults_agree; faultless = faultless_forms_agree }

use Rattle.kd_form.proofs.OneText.{forms_have_one_answer}
use Rattle.kd_form.proofs.laws.forms_have_one_answer.Goals as goal

pub returns : goal.returns
returns c = forms_have_one_answer

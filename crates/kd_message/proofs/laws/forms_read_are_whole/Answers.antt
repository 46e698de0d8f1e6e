use Rattle.kd_message.proofs.WholeForms.{forms_whole}
use Rattle.kd_message.proofs.laws.forms_read_are_whole.Goals as goal

pub returns : goal.returns
returns c = forms_whole

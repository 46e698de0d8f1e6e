use Rattle.kd_look.proofs.FormsShown.{forms_seen}
use Rattle.kd_look.proofs.laws.forms_are_judged_without_their_letters.Goals as goal

pub returns : goal.returns
returns c = forms_seen

use Rattle.kd_lost.proofs.WholeForms.{forms_shown, same_parts, tidy_forms}
use Rattle.kd_lost.proofs.laws.forms_read_are_shown_whole.Goals as goal

pub returns : goal.returns
returns c = record { tidy = tidy_forms; parts = same_parts; shown = forms_shown }

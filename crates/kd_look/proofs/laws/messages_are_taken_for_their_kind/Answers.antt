use Rattle.kd_look.proofs.MessageKinds.{forms_begin_with_headings, orders_no_forms}
use Rattle.kd_look.proofs.laws.messages_are_taken_for_their_kind.Goals as goal

pub returns : goal.returns
returns c = record { forms = forms_begin_with_headings; orders = orders_no_forms }

use Rattle.kd_look.proofs.Machines.{forms_for_machine, orders_for_machine}
use Rattle.kd_look.proofs.laws.messages_are_taken_for_their_machine.Goals as goal

pub returns : goal.returns
returns c = record { orders = orders_for_machine; forms = forms_for_machine }

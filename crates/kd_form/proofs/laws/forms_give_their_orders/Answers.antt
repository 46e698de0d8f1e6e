use Rattle.kd_form.proofs.GivenBack.{forms_give_their_orders, orders_give_letters}
use Rattle.kd_form.proofs.laws.forms_give_their_orders.Goals as goal

pub returns : goal.returns
returns c = record { letters = orders_give_letters; back = forms_give_their_orders }

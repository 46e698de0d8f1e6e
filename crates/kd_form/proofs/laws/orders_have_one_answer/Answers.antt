use Rattle.kd_form.proofs.OneOrder.{orders_have_one_answer}
use Rattle.kd_form.proofs.laws.orders_have_one_answer.Goals as goal

pub returns : goal.returns
returns c = orders_have_one_answer

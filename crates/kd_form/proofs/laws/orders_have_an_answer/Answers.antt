use Rattle.kd_form.proofs.{Rules.some_answer, Prelude.IsOrderAnswer}
use Rattle.kd_form.proofs.laws.orders_have_an_answer.Goals as goal

pub returns : goal.returns
returns c =
    some_answer (IsOrderAnswer c.args.day.now c.args.order.now) c.check_message-answer.result c.check_message-answer.ensures

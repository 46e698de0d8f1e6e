use Rattle.kd_form.proofs.{Rules.some_answer, Prelude.IsFormAnswer}
use Rattle.kd_form.proofs.laws.forms_have_an_answer.Goals as goal

pub returns : goal.returns
returns c =
    some_answer (IsFormAnswer c.args.day.now c.args.form.now) c.check_message-answer.result c.check_message-answer.ensures

use Rattle.kd_curator_command.proofs.Prelude.{refl}
use Rattle.kd_curator_command.proofs.command.message_task.Goals as goal

pub returns-in_err-day-clause-none : goal.returns-in_err-day-clause-none
returns-in_err-day-clause-none c = λ _ task of. c.in_err-day.ensures.none refl task.day of.day

pub returns-clause-said : goal.returns-clause-said
returns-clause-said c = record {
  same = refl;
  day = c.in_ok-day.ensures.said;
  results = c.results_asked.ensures;
}

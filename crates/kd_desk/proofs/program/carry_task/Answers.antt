use Rattle.kd_desk.proofs.{Prelude.false, Runs.{early, refused_before}}
use Rattle.kd_desk.proofs.program.carry_task.Goals as goal

pub returns-in-Card-clause-does : goal.returns-in-Card-clause-does
returns-in-Card-clause-does g c =
    rw c.in-Card.is
    (record {
      told = c.run_card.result;
      does = c.run_card.ensures.chosen;
      answers = c.of_answer.ensures;
    })

pub returns-in-Check-clause-does : goal.returns-in-Check-clause-does
returns-in-Check-clause-does g c =
    rw (c.in-Check.is, ← c.as_slice.ensures)
    (record {
      told = c.run_check.result;
      does = c.run_check.ensures.checks;
      answers = c.of_answer-in-Check.ensures;
    })

pub returns-in-Message-clause-does : goal.returns-in-Message-clause-does
returns-in-Message-clause-does g c =
    rw (c.in-Message.is, c.take_back.ensures.returned) (record {
      told = c.carry_message-done.result;
      does = c.carry_message-done.ensures.does;
      answers = rw c.failed-failed.ensures at c.of_file_answer.ensures;
    })

pub returns-in-Card-clause-untouched : goal.returns-in-Card-clause-untouched
returns-in-Card-clause-untouched g c =
    λ stopped. early _ c.run_card.ensures.untouched (refused_before false _ _ c.of_answer.ensures stopped)

pub returns-in-Check-clause-untouched : goal.returns-in-Check-clause-untouched
returns-in-Check-clause-untouched g c =
    λ stopped. early _ c.run_check.ensures.untouched (refused_before false _ _ c.of_answer-in-Check.ensures stopped)

pub returns-in-Message-clause-untouched : goal.returns-in-Message-clause-untouched
returns-in-Message-clause-untouched g c =
    λ stopped. (c.carry_message-done.ensures.untouched (refused_before _ _ _ c.of_file_answer.ensures stopped)).1

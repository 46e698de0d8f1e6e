use Rattle.kd_desk.proofs.{Prelude.{false, refl}, Runs.{early, refused_before}}
use Rattle.kd_host.proofs.Failing.{FailureAgrees-sink}
use Rattle.kd_desk.proofs.program.carry_out.Goals as goal

pub returns-in-Type-clause-does : goal.returns-in-Type-clause-does
returns-in-Type-clause-does g c =
    let run = c.run_type.ensures in
    rw (c.in-Type.is, ← c.as_slice-machine.ensures)
    (record {
      told = c.run_type.result;
      does = record { refused = run.refused; typed = run.typed };
      answers = c.of_answer.ensures;
    })

pub returns-in-Apply-clause-does : goal.returns-in-Apply-clause-does
returns-in-Apply-clause-does g c =
    let run = c.run_apply.ensures in
    rw (c.in-Apply.is, ← c.as_slice-machine.ensures, ← c.as_slice.ensures) (record {
      told = c.run_apply.result;
      does = (record { refused = run.refused; applied = run.applied }, record { has = refl; well = refl });
      answers = c.of_answer-in-Apply.ensures;
    })

pub returns-clause-failed : goal.returns-clause-failed
returns-clause-failed g c = FailureAgrees-sink _ _ _ refl c.carry_task.ensures.failed

pub returns-in-Type-clause-untouched : goal.returns-in-Type-clause-untouched
returns-in-Type-clause-untouched g c =
    λ stopped. c.run_type.ensures.untouched (refused_before false _ _ c.of_answer.ensures stopped)

pub returns-in-Apply-clause-untouched : goal.returns-in-Apply-clause-untouched
returns-in-Apply-clause-untouched g c = λ stopped. (
  refl,
  early _ c.run_apply.ensures.untouched
      (refused_before false _ _ c.of_answer-in-Apply.ensures stopped),
)

pub returns-clause-untouched : goal.returns-clause-untouched
returns-clause-untouched g c = λ stopped. (refl, c.carry_task.ensures.untouched stopped)

pub returns-clause-does : goal.returns-clause-does
returns-clause-does g c =
    let run = c.carry_task.ensures.does in
    rw (c.in-OnDay.is, ← c.as_slice-machine.ensures, ← c.as_slice-in-OnDay.ensures) (record {
      told = run.told;
      does = (run.does, record { has = refl; well = refl });
      answers = run.answers;
    })

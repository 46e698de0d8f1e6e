use Rattle.std.proofs.Common.{Bor, Err, List, ap, arith, length, refl, ℕ, ◌∙◌}
use Rattle.std.proofs.lemmas.List.{length-map}
use Rattle.kd_curator_command.specs.CommandLine.{unborrowed_command, unborrowed_names}
use Rattle.kd_curator.specs.Program.{Carried, FileUnread}
use Rattle.kd_curator.specs.declared.stop.Stop.TheVariants as stops
use Rattle.kd_curator.proofs.Reading.{reads_all}
use Rattle.kd_curator.proofs.Runs.{device_so, left_alone, months_so, stopped_so, told_so}
use Rattle.kd_curator.proofs.program.run_command.Goals as goal

pub carry_out-answer-requires-clause-month : goal.carry_out-answer-requires-clause-month
carry_out-answer-requires-clause-month g c = months_so _ _ c.requires.meant.1

pub returns-in-Err-clause-carried : goal.returns-in-Err-clause-carried
returns-in-Err-clause-carried g c =
    let named = ap unborrowed_names c.as_slice.ensures.value ∙ c.names_of-names.ensures in
    λ l words meant. FileUnread (unborrowed_command c.args.request.command) meant.said c.in-Err.fault c.len.result
    c.refused_unread-refused.ensures.0
    (reads_all _ _ _ _ _ c.new-contents.ensures named c.in-Err.ensures.read)
    (rw (c.requires.asked, named) at c.in-Err.ensures.asked)
    (omega (arith, c.in-Err.ensures.place refl, c.len.ensures.value))
    (ap (λ refused. Err (stops.Refused refused)) c.refused_unread-refused.ensures.1) (left_alone _ _)

pub returns-clause-carried : goal.returns-clause-carried
returns-clause-carried g c =
    let named = ap unborrowed_names c.as_slice.ensures.value ∙ c.names_of-names.ensures in
    let given = ap length c.as_slice-2.ensures.value in
    let fresh = ap length c.new-contents.ensures in
    let mapped = length-map c.as_slice.result.now (λ (n : Bor (List ℕ)). n.now) in
    let all = ap length named in
    λ l words meant. Carried (unborrowed_command c.args.request.command) meant.said _
    (omega (arith, given, c.in_default.ensures.many, fresh, mapped, all))
    (rw c.as_slice-2.ensures.value (reads_all _ _ _ _ _ c.new-contents.ensures named c.in_default.ensures.read))
    (rw (c.requires.asked, named) at c.in_default.ensures.asked)
    (told_so _ _ _ (
      rw meant.language at c.carry_out-answer.ensures.does,
      rw meant.language at c.carry_out-answer.ensures.noted,
    ) c.of_answer.ensures)

pub returns-clause-untouched : goal.returns-clause-untouched
returns-clause-untouched g c =
    λ stopped. stopped_so _ _ c.of_answer.ensures c.carry_out-answer.ensures.untouched stopped

pub returns-clause-failed : goal.returns-clause-failed
returns-clause-failed g c = device_so _ _ _ _ c.of_answer.ensures c.carry_out-answer.ensures.failed

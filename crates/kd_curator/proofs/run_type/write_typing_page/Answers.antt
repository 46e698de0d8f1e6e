use Rattle.std.proofs.Common.{refl, rules, sym}
use Rattle.kd_curator.specs.RunType.{NoPage}
use Rattle.kd_curator.proofs.TypingAnswers.{failed_told, page_told, untouched_told}
use Rattle.kd_curator.proofs.run_type.write_typing_page.Goals as goal

pub returns-in-Ok-clause-page : goal.returns-in-Ok-clause-page
returns-in-Ok-clause-page g c =
    rw c.answer_after.ensures (page_told _ _ _ _ _ _ c.in-Ok.ensures.page (c.in-Ok.ensures.ready.0 (search rules))
    c.in-Ok.ensures.typing _ (sym c.failed.ensures))

pub returns-in-Ok-clause-untouched : goal.returns-in-Ok-clause-untouched
returns-in-Ok-clause-untouched g c = rw c.answer_after.ensures (λ err other. untouched_told _ err other)

pub returns-in-Ok-clause-failed : goal.returns-in-Ok-clause-failed
returns-in-Ok-clause-failed g c =
    rw c.answer_after.ensures (failed_told _ _ _ _ _ _ c.in-Ok.ensures.page _ (sym c.failed.ensures))

pub returns-in-Err-clause-page : goal.returns-in-Err-clause-page
returns-in-Err-clause-page g c =
    rw c.of_message.ensures (NoPage (λ ready. cc (c.in-Err.ensures.ready.1 ready)) refl)

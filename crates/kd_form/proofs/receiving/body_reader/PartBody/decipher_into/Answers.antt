use Rattle.kd_form.proofs.FormSteps.{err_is, IsBodyAnswer-kept, plaintext_bytes, ap, ◌∙◌}
use Rattle.kd_form.proofs.receiving.body_reader.PartBody.decipher_into.Goals as goal

pub returns-clause-given : goal.returns-clause-given
returns-clause-given c letters more size kept =
    let shown = rw c.as_slice-letters.ensures.value at c.split_at.ensures.front in
    let told =
    IsBodyAnswer-kept _ _ _ _ _ letters more _ c.requires.heading c.requires.few size kept shown
    c.in_ok-letters.ensures in
    (_, told, c.plaintext_bytes.ensures ∙ ap (plaintext_bytes c.args.day.now) c.as_slice.ensures.value)

pub returns-in_err-letters-clause-given : goal.returns-in_err-letters-clause-given
returns-in_err-letters-clause-given c letters more size kept =
    let shown = rw c.as_slice-letters.ensures.value at c.split_at.ensures.front in
    rw (err_is _ _ c.from_residual.ensures.1)
    (IsBodyAnswer-kept _ _ _ _ _ letters more _ c.requires.heading c.requires.few size kept shown
    c.in_err-letters.ensures)

use Rattle.kd_form.proofs.FormSteps.{err_is, next_last, next_refused, IsMessageAnswer-text, IsMessageAnswer-part_fault}
use Rattle.kd_form.proofs.FormSteps.{IsMessageAnswer-parts_missing, in_stage, ℕ, ap, ArrayVec, ◌∙◌, refl}
use Rattle.kd_form.proofs.receiving.form_reader.FormReaderMessageReader.end.Goals as goal

pub decipher_into-requires-clause-heading : goal.decipher_into-requires-clause-heading
decipher_into-requires-clause-heading c = (in_stage c.requires.room.held.is c.in-Body.is).holds.is_heading

pub returns-in-Heading : goal.returns-in-Heading
returns-in-Heading c = λ form text so_far.
    let found = c.fault_in_heading.ensures _ (in_stage so_far.is c.in-Heading.is).0 in
    IsMessageAnswer-part_fault so_far.is (λ start. found _ refl refl) c.requires.empty

pub returns-then-body-self : goal.returns-then-body-self
returns-then-body-self c = λ form text so_far.
    IsMessageAnswer-parts_missing so_far.is c.in-Body.is c.in_ok-decipher_into-in-Body.ensures.given c.if-body-self.true

pub returns-else-body-self : goal.returns-else-body-self
returns-else-body-self c = λ form text so_far.
    IsMessageAnswer-text so_far.is c.in-Body.is c.in_ok-decipher_into-in-Body.ensures.given c.if-body-self.false
    c.push.ensures.items

pub returns-in_err-decipher_into-in-Body : goal.returns-in_err-decipher_into-in-Body
returns-in_err-decipher_into-in-Body c = λ form text so_far.
    rw (err_is _ _ c.from_residual.ensures.1) (IsMessageAnswer-part_fault so_far.is
    (next_refused (next_last so_far.is c.in-Body.is) _ c.in_err-decipher_into-in-Body.ensures.given)
    (ap (λ (v : ArrayVec ℕ). v.items) c.in_err-decipher_into-in-Body.ensures.unchanged ∙ c.requires.empty))

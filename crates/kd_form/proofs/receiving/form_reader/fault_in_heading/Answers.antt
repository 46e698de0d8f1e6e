use Rattle.kd_form.proofs.FormSteps.{ThenNext-tested, heading_refused, right_content, refl, ◌∙◌, arith, IsTrue, All-nil}
use Rattle.kd_form.proofs.FormSteps.{is_text_byte, HasFault, GoesOn}
use Rattle.kd_form.proofs.receiving.form_reader.fault_in_heading.Goals as goal

pub returns-in-Ok : goal.returns-in-Ok
returns-in-Ok c = λ part held p number expected.
    let (is, due) = ThenNext-tested c.in-Ok.ensures in
    let told = c.heading_of_open_line-heading.ensures part held.unbroken (c.as_slice.ensures.value ∙ held.kept) in
    let has = rw is at told in
    rw (number, expected) (GoesOn _ (right_content p.bytes_before has due (All-nil (λ b. IsTrue (is_text_byte b))))
    (HasFault _ (HasFault _ ((λ _ none. grind (arith, none, has.is_heading.letters)), refl) refl) refl))

pub returns-in-Err : goal.returns-in-Err
returns-in-Err c = λ part held p number expected.
    rw (number, expected) (HasFault _ (heading_refused p.bytes_before _
    (c.heading_of_open_line-heading.ensures part held.unbroken (c.as_slice.ensures.value ∙ held.kept)) c.in-Err.ensures)
    refl)

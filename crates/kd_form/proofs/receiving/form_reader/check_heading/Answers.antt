use Rattle.kd_form.proofs.Prelude.{refl, sym, ◌∙◌, GoesOn, HasFault, false≢true}
use Rattle.kd_form.proofs.receiving.form_reader.check_heading.Goals as goal

pub returns-then-heading-number : goal.returns-then-heading-number
returns-then-heading-number c = elim c.then-heading-number.branch [
  | goal.then-heading-number-via-then-heading-number w ↦
      GoesOn _ c.in-Some.is (HasFault _ ((λ _ due. w.if-heading-number.true due.numbered), refl) refl)
  | goal.then-heading-number-via-else-heading-number+then-not-is_expected w ↦
      GoesOn _ c.in-Some.is (HasFault _ (
        (λ _ due.
            false≢true (sym w.if-not-is_expected.true ∙ w.is_expected.ensures.1 due.as_expected)),
        refl,
      ) refl)
]

pub returns-in_default : goal.returns-in_default
returns-in_default c = HasFault _ (c.in_default.not-Some, refl) refl

pub returns : goal.returns
returns c =
    let as_expected = c.is_expected.ensures.0 c.if-not-is_expected.false in
    GoesOn _ c.in-Some.is (GoesOn tt (record { numbered = c.if-heading-number.false; as_expected = as_expected }) refl)

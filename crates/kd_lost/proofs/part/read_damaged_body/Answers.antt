use Rattle.std.proofs.Common.{◌∙◌, length, sym, ap, arith, refl, None, subst}
use Rattle.std.proofs.lemmas.Bool.{false≢true}
use Rattle.std.proofs.lemmas.Grind.{common_steps}
use Rattle.std.proofs.lemmas.List.{length-take}
use Rattle.kd_state.specs.AnswerRules.{GoesOn, HasFault}
use Rattle.kd_form.proofs.Headings.{at_most}
use Rattle.kd_lost.specs.Lost.{received_letters}
use Rattle.kd_lost.specs.DamagedText.{IsDamagedLettersAnswer}
use Rattle.kd_lost.proofs.Parts.{counted_answer}
use Rattle.kd_lost.proofs.part.read_damaged_body.Goals as goal

pub returns-then-not-are_body_bytes : goal.returns-then-not-are_body_bytes
returns-then-not-are_body_bytes c = HasFault _ (
  (λ _ all. false≢true (sym c.if-not-are_body_bytes.true ∙ c.are_body_bytes.ensures.1 all)),
  refl,
) refl

pub returns-then-len-heading : goal.returns-then-len-heading
returns-then-len-heading c =
    let received = received_letters c.args.body.now in
    let few = at_most _ c.args.heading.now.letters c.requires.letters in
    GoesOn tt (c.are_body_bytes.ensures.0 c.if-not-are_body_bytes.false) (HasFault _ (
      (λ _ counted. c.if-len-heading.true
          (omega (
            arith,
            ap length c.received_letters-letters.ensures,
            length-take 525 received,
            counted,
            few,
            c.len.ensures.value,
          ))),
      refl,
    ) refl)

pub returns-in-Some : goal.returns-in-Some
returns-in-Some c =
    counted_answer c.args.day.now c.args.heading.now c.args.body.now _ _ c.requires
    (c.are_body_bytes.ensures.0 c.if-not-are_body_bytes.false) c.received_letters-letters.ensures
    (omega (arith, c.len.ensures.value, c.if-len-heading.false))
    (rw c.in-Some.is (rw c.as_slice.ensures.value at c.decipher_rotor.ensures))

pub returns-in-None : goal.returns-in-None
returns-in-None c =
    counted_answer c.args.day.now c.args.heading.now c.args.body.now _ _ c.requires
    (c.are_body_bytes.ensures.0 c.if-not-are_body_bytes.false) c.received_letters-letters.ensures
    (omega (arith, c.len.ensures.value, c.if-len-heading.false))
    (rw c.in-None.is (subst (λ l. IsDamagedLettersAnswer c.args.day.now None l c.decipher_pin.result)
    c.as_slice-in-None.ensures.value c.decipher_pin.ensures))

pub prove-unreachable-requires : goal.prove-unreachable-requires
prove-unreachable-requires c = grind (arith, common_steps)

pub decipher_rotor-requires-clause-indicator : goal.decipher_rotor-requires-clause-indicator
decipher_rotor-requires-clause-indicator c = grind (arith, common_steps)

pub decipher_rotor-requires-clause-some : goal.decipher_rotor-requires-clause-some
decipher_rotor-requires-clause-some c = grind (arith, common_steps)

pub decipher_rotor-requires-clause-few : goal.decipher_rotor-requires-clause-few
decipher_rotor-requires-clause-few c = grind (arith, common_steps)

pub decipher_pin-requires-clause-pins : goal.decipher_pin-requires-clause-pins
decipher_pin-requires-clause-pins c = grind (arith, common_steps)

pub decipher_pin-requires-clause-some : goal.decipher_pin-requires-clause-some
decipher_pin-requires-clause-some c = grind (arith, common_steps)

pub decipher_pin-requires-clause-few : goal.decipher_pin-requires-clause-few
decipher_pin-requires-clause-few c = grind (arith, common_steps)

use Rattle.kd_form.proofs.Prelude.{◌≡◌, ℕ, List, Result, Ok, Err, MatchResult, ArrayVec, FormFault, Day, IsWindow}
use Rattle.kd_form.proofs.Prelude.{sheet_key, HasIndicatorsAround, keys_of_body, list_of_body, list_letters}
use Rattle.kd_form.proofs.Prelude.{text_of_body, GoesOn, HasFault, false≢true, refl, sym, ◌∙◌}
use Rattle.kd_form.specs.BodyCipher.{IsPinAnswer, IsPinTextAnswer}
use Rattle.kd_form.proofs.receiving.body_cipher.decipher_pin_body.Goals as goal

pub returns-then-not-has_indicators_around : goal.returns-then-not-has_indicators_around
returns-then-not-has_indicators_around c =
    HasFault _ (
      (λ _ around.
          false≢true (sym c.if-not-has_indicators_around.true ∙ c.has_indicators_around.ensures.1 around)),
      refl,
    ) refl

pub returns-then-not-can_show : goal.returns-then-not-can_show
returns-then-not-can_show c =
    let around = c.has_indicators_around.ensures.0 c.if-not-has_indicators_around.false in
    let shows = rw (c.new-machine.ensures, c.keys_of_body-keys.ensures) at c.can_show.ensures.window in
    GoesOn tt around
    (HasFault _ ((λ _ on_wheels. false≢true (sym c.if-not-can_show.true ∙ shows.1 on_wheels)), refl) refl)

pub returns-then-not-has_list_letters : goal.returns-then-not-has_list_letters
returns-then-not-has_list_letters c =
    let around = c.has_indicators_around.ensures.0 c.if-not-has_indicators_around.false in
    let on_wheels =
    rw (c.new-machine.ensures, c.keys_of_body-keys.ensures) at (c.can_show.ensures.window.0 c.if-not-can_show.false) in
    GoesOn tt around (GoesOn tt on_wheels (HasFault _ (
      (λ _ listed.
          false≢true (sym c.if-not-has_list_letters.true ∙ c.has_list_letters.ensures.1 listed)),
      refl,
    ) refl))

-- after the tests of the indicators, the answer for the body is the answer for its text
body_answered : (s : Day) (part : ℕ) (letters : List ℕ) (answer : Result (ArrayVec ℕ) FormFault)
    → HasIndicatorsAround letters → IsWindow (sheet_key s) (keys_of_body letters).external
    → list_of_body letters ≡ list_letters s
    → MatchResult answer
    (λ text. IsPinTextAnswer s part (keys_of_body letters) (text_of_body letters) (Ok text.items))
    (λ fault. IsPinTextAnswer s part (keys_of_body letters) (text_of_body letters) (Err fault))
    → MatchResult answer (λ text. IsPinAnswer s part letters (Ok text.items))
    (λ fault. IsPinAnswer s part letters (Err fault))
body_answered s part letters (Ok text) around on_wheels listed read =
    GoesOn tt around (GoesOn tt on_wheels (GoesOn tt listed read))
body_answered s part letters (Err fault) around on_wheels listed read =
    GoesOn tt around (GoesOn tt on_wheels (GoesOn tt listed read))

pub returns : goal.returns
returns c =
    let keys = c.keys_of_body-keys.ensures in
    let day = c.can_show.ensures.day ∙ c.new-machine.ensures in
    let on_wheels = rw (c.new-machine.ensures, keys) at (c.can_show.ensures.window.0 c.if-not-can_show.false) in
    body_answered c.args.day.now c.args.part c.args.letters.now c.decipher_pin_text.result
    (c.has_indicators_around.ensures.0 c.if-not-has_indicators_around.false) on_wheels
    (c.has_list_letters.ensures.0 c.if-not-has_list_letters.false) (rw (day, keys) at c.decipher_pin_text.ensures)

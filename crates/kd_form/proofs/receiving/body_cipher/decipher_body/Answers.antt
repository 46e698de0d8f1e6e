use Rattle.kd_form.proofs.Prelude.{◌≡◌, ℕ, List, length, Result, Ok, Err, MatchResult, refl, arith, Day, Heading}
use Rattle.kd_form.proofs.Prelude.{ArrayVec, FormFault, IsLettersAnswer, IsBodyAnswer, GoesOn, HasFault}
use Rattle.kd_form.proofs.receiving.body_cipher.decipher_body.Goals as goal

pub returns-then-letters-heading : goal.returns-then-letters-heading
returns-then-letters-heading c = HasFault _ ((λ _. grind arith), refl) refl

-- for a body with as many letters as its heading says, the answer for the body is the answer for its letters
body_answered : (s : Day) (h : Heading) (letters : List ℕ) (answer : Result (ArrayVec ℕ) FormFault)
    → length letters ≡ h.letters
    → MatchResult answer
    (λ text. IsLettersAnswer s h.part h.indicator letters (Ok text.items))
    (λ fault. IsLettersAnswer s h.part h.indicator letters (Err fault))
    → MatchResult answer
    (λ text. IsBodyAnswer s h.part h letters (Ok text.items))
    (λ fault. IsBodyAnswer s h.part h letters (Err fault))
body_answered s h letters (Ok text) counted read = GoesOn tt counted read
body_answered s h letters (Err fault) counted read = GoesOn tt counted read

pub returns-in-Some : goal.returns-in-Some
returns-in-Some c =
    body_answered c.args.day.now c.args.heading.now c.args.letters.now c.decipher_rotor_body.result (grind arith)
    (rw c.in-Some.is c.decipher_rotor_body.ensures)

pub returns-in-None : goal.returns-in-None
returns-in-None c =
    body_answered c.args.day.now c.args.heading.now c.args.letters.now c.decipher_pin_body.result (grind arith)
    (rw c.in-None.is c.decipher_pin_body.ensures)

use Rattle.std.proofs.Common.{◌≡◌, ◌∙◌, ℕ, length, drop, Option, arith, length-drop, ap, ◌++◌, refl, Ok}
use Rattle.kd_form.proofs.Prelude.{err_is}
use Rattle.kd_state.specs.AnswerRules.{GoesOn, HasFault}
use Rattle.kd_lost.proofs.KeyLetters.{all_but, key_letters_length}
use Rattle.kd_lost.proofs.copies.keys_of_copies.Goals as goal

pub returns-in_err-chosen : goal.returns-in_err-chosen
returns-in_err-chosen c =
    rw (err_is _ _ c.from_residual.ensures.1)
    (HasFault _ (rw c.chosen_copies.ensures at c.in_err-chosen.ensures) refl)

pub returns-in_err-push_key_letters : goal.returns-in_err-push_key_letters
returns-in_err-push_key_letters c =
    let pushed = rw (all_but c.args.start.now 2, all_but c.args.end.now 2) at c.in_err-push_key_letters.ensures in
    rw (err_is _ _ c.from_residual-in_err-push_key_letters.ensures.1)
    (GoesOn _ (rw c.chosen_copies.ensures at c.in_ok-chosen.ensures) (HasFault _ pushed refl))

pub six_letters-requires : goal.six_letters-requires
six_letters-requires c =
    let start = c.args.start.now in
    let end = c.args.end.now in
    let pushed = rw (all_but start 2, all_but end 2) at c.in_ok-push_key_letters.ensures in
    let same : length (drop 2 start) ≡ length (drop 2 end) = omega (arith, length-drop {A = Option ℕ}) in
    let size = key_letters_length 1 (drop 2 start) (drop 2 end) pushed.0 same pushed.1 in
    let six : length (drop 2 start) ≡ 6 = omega (arith, length-drop {A = Option ℕ}) in
    let all : c.as_slice.result.now ≡ pushed.0 =
    c.as_slice.ensures.value ∙ pushed.2 ∙ ap (λ l. l ++ pushed.0) c.new-external.ensures in
    ap length all ∙ size ∙ six

pub returns : goal.returns
returns c =
    let pushed = rw (all_but c.args.start.now 2, all_but c.args.end.now 2) at c.in_ok-push_key_letters.ensures in
    let all : c.as_slice.result.now ≡ pushed.0 =
    c.as_slice.ensures.value ∙ pushed.2 ∙ ap (λ l. l ++ pushed.0) c.new-external.ensures in
    GoesOn _ (rw c.chosen_copies.ensures at c.in_ok-chosen.ensures) (GoesOn pushed.0 pushed.1
    (λ i. Ok (record { chosen = c.in_ok-chosen.chosen; external = (c.six_letters.ensures ∙ all) i })))

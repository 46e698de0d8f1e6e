use Rattle.std.proofs.Common.{◌≡◌, ◌∙◌, ℕ, ◌-◌, length, take, drop, Option, arith, length-drop, refl, ap, Err, Ok}
use Rattle.std.proofs.Common.{subst, Any, None, IsTrue, ◌↔◌}
use Rattle.std.specs.List.{slice_range}
use Rattle.kd_form.specs.PartMaking.{list_letters}
use Rattle.kd_lost.specs.DamagedText.{IsListTest}
use Rattle.kd_lost.proofs.KeyLetters.{list_there, lost_or_not}
use Rattle.std.proofs.lemmas.Grind.{common_steps}
use Rattle.std.proofs.lemmas.List.{length-take-le}
use Rattle.kd_state.specs.AnswerRules.{HasFault}
use Rattle.kd_form.proofs.Prelude.{err_is}
use Rattle.kd_lost.specs.Copies.{IsKeysAnswer}
use Rattle.kd_lost.proofs.PinText.{keyed_fault, keyed_text}
use Rattle.kd_lost.proofs.body.decipher_pin.Goals as goal

pub returns-in_err-keys : goal.returns-in_err-keys
returns-in_err-keys c =
    let received = c.args.received.now in
    let failed = subst (λ l. IsKeysAnswer (take 8 received) (take 8 l) (Err c.in_err-keys.field-0.0))
    c.split_at.ensures.back c.in_err-keys.ensures in
    rw (err_is _ _ c.from_residual.ensures.1) (HasFault _ failed refl)

pub returns-in_err-letters : goal.returns-in_err-letters
returns-in_err-letters c =
    let received = c.args.received.now in
    let keys = subst (λ l. IsKeysAnswer (take 8 received) (take 8 l) (Ok c.in_ok-keys.keys))
    c.split_at.ensures.back c.in_ok-keys.ensures in
    rw (err_is _ _ c.from_residual-in_err-letters.ensures.1)
    (keyed_fault c.args.day.now received _ c.in_ok-keys.keys _ keys c.in_err-letters.ensures)

pub returns : goal.returns
returns c =
    let received = c.args.received.now in
    let keys = subst (λ l. IsKeysAnswer (take 8 received) (take 8 l) (Ok c.in_ok-keys.keys))
    c.split_at.ensures.back c.in_ok-keys.ensures in
    let at_end : length (take 8 (drop (length received - 10) received)) ≡ 8 =
    length-take-le 8 (drop (length received - 10) received) (omega
    (arith, length-drop {A = Option ℕ}, c.requires.some)) in
    let at_start : length (take 8 received) ≡ 8 = length-take-le 8 received (omega (arith, c.requires.some)) in
    keyed_text c.args.day.now received _ c.in_ok-keys.keys c.in_ok-letters.letters c.in_ok-letters.internal _ c.requires.some refl
    at_end at_start refl c.list_of.ensures refl keys c.in_ok-letters.ensures (
      subst (λ l. IsListTest (list_letters c.args.day.now) (slice_range received 8 10) l c.test_list.result)
          (c.split_at-2.ensures.back ∙ ap (drop 8) c.split_at.ensures.back
          ∙ list_there received (omega (arith, c.requires.some)))
          c.test_list.ensures,
      record { at_start = c.has_lost_letter.result; at_end = c.has_lost_letter-2.result },
      refl,
      record {
        at_start = lost_or_not _ _ c.has_lost_letter.ensures.lost c.has_lost_letter.ensures.none;
        at_end = subst (λ l. IsTrue c.has_lost_letter-2.result ↔ Any (λ got. got ≡ None) l) c.split_at.ensures.back
            (lost_or_not _ _ c.has_lost_letter-2.ensures.lost c.has_lost_letter-2.ensures.none);
      },
    )

pub overflow_sub-received : goal.overflow_sub-received
overflow_sub-received c = omega arith

pub split_at-requires : goal.split_at-requires
split_at-requires c = omega arith

pub slice_bounds-keys_of_copies-end : goal.slice_bounds-keys_of_copies-end
slice_bounds-keys_of_copies-end c =
    omega (arith, length-take-le 8 c.args.received.now (omega (arith, c.requires.some)))

pub slice_bounds-keys_of_copies-end-2 : goal.slice_bounds-keys_of_copies-end-2
slice_bounds-keys_of_copies-end-2 c = grind (arith, common_steps)

pub keys_of_copies-requires-clause-start : goal.keys_of_copies-requires-clause-start
keys_of_copies-requires-clause-start c = grind (arith, common_steps)

pub keys_of_copies-requires-clause-end : goal.keys_of_copies-requires-clause-end
keys_of_copies-requires-clause-end c = grind (arith, common_steps)

pub overflow_sub-text : goal.overflow_sub-text
overflow_sub-text c = omega arith

pub slice_bounds-text-count : goal.slice_bounds-text-count
slice_bounds-text-count c = omega arith

pub slice_bounds-text-start : goal.slice_bounds-text-start
slice_bounds-text-start c = grind (arith, common_steps)

pub slice_bounds-text-end : goal.slice_bounds-text-end
slice_bounds-text-end c = omega arith

pub decipher_with_keys-requires : goal.decipher_with_keys-requires
decipher_with_keys-requires c = grind (arith, common_steps)

pub split_at-requires-2 : goal.split_at-requires-2
split_at-requires-2 c = grind (arith, common_steps)

pub list_of-requires : goal.list_of-requires
list_of-requires c = omega arith

pub slice_bounds-test_list-count : goal.slice_bounds-test_list-count
slice_bounds-test_list-count c = omega arith

pub slice_bounds-test_list-start : goal.slice_bounds-test_list-start
slice_bounds-test_list-start c = omega arith

pub slice_bounds-test_list-end : goal.slice_bounds-test_list-end
slice_bounds-test_list-end c = omega arith

pub slice_bounds-has_lost_letter-end : goal.slice_bounds-has_lost_letter-end
slice_bounds-has_lost_letter-end c =
    omega (arith, length-take-le 10 c.args.received.now (omega (arith, c.requires.some)))

-- The text of a Converter's part in which letters were lost.
use Rattle.std.proofs.Common.{◌≡◌, ◌∙◌, ℕ, zero, suc, ◌-◌, ◌<◌, ◌≤◌, List, [], ◌∷◌, length, drop, take, sym, ap}
use Rattle.std.proofs.Common.{subst, arith, Option, None, Ok, Err, get_or, slice_index}
use Rattle.std.proofs.lemmas.List.{drop-take, get_or-take}
use Rattle.std.specs.List.{slice_range}
use Rattle.arrayvec.specs.ArrayVec.{ArrayVec}
use Rattle.kd_state.specs.AnswerRules.{GoesOn, HasFault}
use Rattle.kd_state.proofs.OneAnswer.{ThenNext-Ok, Yields-Ok}
use Rattle.kd_state.specs.SheetDay.{Day}
use Rattle.kd_form.specs.declared.keys.PinKeys.{PinKeys}
use Rattle.kd_form.specs.BodyCipher.{keys_of_body, text_of_body}
use Rattle.kd_form.specs.InternalKey.{IsInternalKey}
use Rattle.kd_form.specs.PartMaking.{cipher_from, enciphered_choice}
use Rattle.kd_form.proofs.OneOrder.{one_internal_key}
use Rattle.kd_lost.specs.declared.damage.PartDamage.{PartDamage}
use Rattle.kd_lost.specs.declared.damaged_text.DamagedText.{DamagedText}
use Rattle.kd_lost.specs.declared.damaged_text.TextKeys.TheVariants as text_keys
use Rattle.kd_lost.specs.Lost.{Completes, IsLetterFor, covered}
use Rattle.kd_lost.specs.Copies.{IsKeysAnswer, chosen_copies}
use Rattle.kd_lost.specs.WholePart.{HasKeysAround}
use Rattle.kd_lost.specs.DamagedText.{IsDamagedLettersAnswer, IsKeyedTextAnswer, AreWarnings, text_window}
use Rattle.kd_lost.proofs.KeyLetters.{four_hold, only_letter, only_letters}
use Rattle.kd_lost.proofs.Completions.{completes_length, front_completes, rest_completes}

-- the letter of a completion at a place is the received one, or any letter
letter_at : (received : List (Option ℕ)) (whole : List ℕ) (i : ℕ) → Completes received whole → i < length received
    → IsLetterFor (get_or received i None) (get_or whole i 0)
letter_at [] whole i a inside = absurd (omega (arith, inside))
letter_at (got ∷ received) [] i a inside = absurd a
letter_at (got ∷ received) (x ∷ whole) zero a inside = a.0
letter_at (got ∷ received) (x ∷ whole) (suc i) a inside = letter_at received whole i a.1 (omega (arith, inside))

-- the keys at the start and at the end, for short
abbrev pub start_of : List (Option ℕ) → List (Option ℕ)
start_of received = take 8 received

abbrev pub end_of : List (Option ℕ) → List (Option ℕ)
end_of received = take 8 (drop (length received - 10) received)

-- the keys of a completion complete both copies
pub copies_complete : (received : List (Option ℕ)) (whole : List ℕ) → Completes received whole → HasKeysAround whole
    → Completes (start_of received) (take 8 whole) × Completes (end_of received) (take 8 whole)
copies_complete received whole completes around =
    let size = completes_length received whole completes in (
      front_completes 8 received whole completes,
      subst (Completes (end_of received)) (ap (λ n. take 8 (drop (n - 10) whole)) size ∙ sym around.again)
          (front_completes 8 (drop (length received - 10) received) (drop (length received - 10) whole)
          (rest_completes (length received - 10) received whole completes)),
    )

-- the keys that the copies give are those of each completion
pub keys_there : (start end : List (Option ℕ)) (whole : List ℕ) (keys : PinKeys) → 2 ≤ length start → 2 ≤ length end
    → Completes start (take 8 whole) → Completes end (take 8 whole) → slice_index whole 0 ≡ slice_index whole 1
    → IsKeysAnswer start end (Ok keys) → keys_of_body whole ≡ keys
keys_there start end whole keys some more one other twice read =
    let first = ThenNext-Ok read in
    let rest = ThenNext-Ok first.next in
    let x = slice_index whole 1 in
    let at_one : get_or (take 8 whole) 1 0 ≡ x = get_or-take 8 whole 1 0 (omega arith) in
    let at_zero : get_or (take 8 whole) 0 0 ≡ x = get_or-take 8 whole 0 0 (omega arith) ∙ twice in
    let P = λ (got : Option ℕ). IsLetterFor got x in
    let a = subst (IsLetterFor (get_or start 0 None)) at_zero (letter_at start (take 8 whole) 0 one (omega
    (arith, some))) in
    let b = subst (IsLetterFor (get_or start 1 None)) at_one (letter_at start (take 8 whole) 1 one (omega
    (arith, some))) in
    let c = subst (IsLetterFor (get_or end 0 None)) at_zero (letter_at end (take 8 whole) 0 other (omega
    (arith, more))) in
    let d = subst (IsLetterFor (get_or end 1 None)) at_one (letter_at end (take 8 whole) 1 other (omega
    (arith, more))) in
    let each = four_hold P (get_or start 0 None) (get_or start 1 None) (get_or end 0 None)
    (get_or end 1 None) a b c d in
    let chosen = only_letter 0 (chosen_copies start end) first.found x first.says each in
    let cut : drop 2 (take 8 whole) ≡ slice_range whole 2 8 = drop-take 2 6 whole in
    let external = sym cut ∙ only_letters 1 (drop 2 start) (drop 2 end) rest.found (drop 2 (take 8 whole)) rest.says
    (rest_completes 2 start (take 8 whole) one) (rest_completes 2 end (take 8 whole) other) in
    let same : keys_of_body whole ≡ record { chosen = first.found; external = rest.found } =
    λ i. record { chosen = chosen i; external = external i } in
    same ∙ sym (Yields-Ok rest.next)

-- a fault of the keyed text is one of the letters
pub keyed_fault : (s : Day) (received middle : List (Option ℕ)) (keys : PinKeys) (damage : PartDamage)
    → IsKeysAnswer (start_of received) (end_of received) (Ok keys) → IsKeyedTextAnswer s keys middle (Err damage)
    → IsDamagedLettersAnswer s None received (Err damage)
keyed_fault s received middle keys damage read (HasFault f is e) =
    GoesOn keys read (HasFault f is (ap Err (cc)))
keyed_fault s received middle keys damage read (GoesOn on wheels (HasFault f is e)) =
    GoesOn keys read (GoesOn on wheels (HasFault f is (ap Err (cc))))
keyed_fault s received middle keys damage read (GoesOn on wheels (GoesOn internal is none)) = absurd none

-- the text of the letters between the indicators is the text of each completion
pub keyed_text : (s : Day) (received middle : List (Option ℕ)) (keys : PinKeys) (shown : ArrayVec (Option ℕ))
    (internal : ArrayVec ℕ) (text : DamagedText) → 20 ≤ length received → middle ≡ slice_range received 10 (length received - 10)
    → length (end_of received) ≡ 8 → length (start_of received) ≡ 8
    → text.letters ≡ shown → text.received.items ≡ received
    → text.keys ≡ text_keys.Pin (record { indicator = keys; internal = internal })
    → IsKeysAnswer (start_of received) (end_of received) (Ok keys)
    → IsKeyedTextAnswer s keys middle (Ok (shown, internal)) → AreWarnings s None received text
    → IsDamagedLettersAnswer s None received (Ok text)
keyed_text s received middle keys shown internal text some is eight also same came kept read given warnings =
    let one = ThenNext-Ok given in
    let two = ThenNext-Ok one.next in
    GoesOn keys read (GoesOn tt one.says (GoesOn two.found two.says (record {
      each = λ whole made completes made_is.
          let both = copies_complete received whole completes made_is.around in
          let there = keys_there (start_of received) (end_of received) whole keys (omega (arith, also))
          (omega (arith, eight)) both.0 both.1 made_is.around.twice read in
          let size = completes_length received whole completes in
          let inside : Completes middle (text_of_body whole) =
          subst (λ l. Completes l (text_of_body whole)) (sym is)
          (subst (λ n. Completes (slice_range received 10 (length received - 10)) (slice_range whole 10 (n - 10))) size
          (front_completes (length received - 10 - 10) (drop 10 received) (drop 10 whole)
          (rest_completes 10 received whole completes))) in
          let key = one_internal_key (enciphered_choice s keys) two.found made_is.internal two.says
          (subst (λ k. IsInternalKey (enciphered_choice s k) made_is.internal) there made_is.is_key) in
          ap (λ l. l.items) same ∙ two.next.1 (text_of_body whole) inside
          ∙ ap (covered middle) (ap (λ k. cipher_from s k (text_of_body whole)) key ∙ sym made_is.is)
          ∙ ap (λ l. covered l made) is;
      as_received = came;
      keys = (
        record { indicator = keys; internal = internal },
        kept,
        read,
        one.says,
        subst (IsInternalKey (enciphered_choice s keys)) (sym two.next.0) two.says,
      );
      from_keys = λ whole inside.
          let window : two.found ≡ text_window s text.keys = sym two.next.0 ∙ ap (text_window s) (sym kept) in
          ap (λ l. l.items) same ∙ two.next.1 whole (subst (λ l. Completes l whole) (sym is) inside)
          ∙ λ i. covered (is i) (cipher_from s (window i) whole);
      warnings = warnings;
    })))

-- The text of a part is the text of each of its completions, and some completion has a text.
use Rattle.std.proofs.Common.{All, ◌≡◌, ◌∙◌, ℕ, ◌-◌, ◌<◌, ◌≤◌, List, [], ◌∷◌, ◌++◌, length, map, drop, take, refl}
use Rattle.std.proofs.Common.{sym, ap, subst, arith, Option, Some, None, Result, Ok, Err, IsTrue, IsFalse}
use Rattle.std.proofs.Common.{append_assoc, get_or}
use Rattle.std.proofs.Common.{length-append, length-drop}
use Rattle.std.proofs.lemmas.Bool.{false≢true}
use Rattle.std.proofs.lemmas.List.{drop_at, length-take-le, take-append-drop, take-take, take_at}
use Rattle.std.specs.Prelude.{IfOk}
use Rattle.kd_tables.specs.LineWords.{IsWithout, IsFirstPart, line_of}
use Rattle.kd_state.specs.SheetDay.{Day, Rotor, Pin}
use Rattle.kd_state.specs.EngineKey.{IsWindow}
use Rattle.kd_state.specs.OwnKeys.{sheet_key}
use Rattle.kd_state.proofs.OneAnswer.{ThenNext-Ok, Yields-Ok}
use Rattle.kd_form.specs.declared.{heading.{Heading.{Heading}, Indicator.{Indicator}}, keys.PinKeys.{PinKeys}}
use Rattle.kd_form.specs.BodyCipher.{HasIndicator, deciphered_key, keys_of_body, text_of_body}
use Rattle.kd_form.specs.FormParts.{IsLetterCount, IsLineText}
use Rattle.kd_form.specs.InternalKey.{IsInternalKey}
use Rattle.kd_form.specs.Part.{heading_words}
use Rattle.kd_form.specs.PartMaking.{cipher_from, enciphered_choice}
use Rattle.kd_form.specs.PartReading.{HasHeading}
use Rattle.kd_form.specs.Sending.{letters_from}
use Rattle.kd_form.proofs.Headings.{ended_heading, one_heading}
use Rattle.kd_lost.specs.declared.damage.PartDamage.{PartDamage}
use Rattle.kd_lost.specs.declared.damaged_text.DamagedText.{DamagedText}
use Rattle.kd_lost.specs.Lost.{AnyLetter, AsReceived, Completes, IsCompletion, meant_byte, covered, filled, is_lost}
use Rattle.kd_lost.specs.Lost.{IsLetterFor, received_letters}
use Rattle.kd_lost.specs.Copies.{IsKeysAnswer, chosen_copies}
use Rattle.kd_lost.specs.WholePart.{HasKeysAround, IsLettersText}
use Rattle.kd_lost.specs.DamagedText.{IsDamagedLettersAnswer, IsTextShown, text_part}
use Rattle.kd_lost.specs.DamagedPart.{IsDamagedHeading, IsDamagedTextAnswer, IsPartShown, body_of, first_line}
use Rattle.kd_lost.specs.DamagedPart.{is_body_byte}
use Rattle.kd_lost.proofs.Ciphers.{filled_completes}
use Rattle.kd_lost.proofs.Completions.{both_complete, completes_length}
use Rattle.kd_lost.proofs.KeyLetters.{each_of_four, key_letters_complete, key_letters_length, letter_of_each}
use Rattle.kd_lost.proofs.PinText.{end_of, start_of}
use Rattle.kd_lost.proofs.Parts.{OneLine, TwoLines, capitals_complete, completion_joined, completion_split, has_lines}
use Rattle.kd_lost.proofs.Parts.{HasLines, letters_complete, nothing_filled, restored, unbroken_whole, unlost_line}

-- -------- some completion of the letters has a text

joined_at : (n : ℕ) (received : List (Option ℕ)) (one other : List ℕ) → Completes (take n received) one
    → Completes (drop n received) other → Completes received (one ++ other)
joined_at n received one other a b =
    subst (λ l. Completes l (one ++ other)) (take-append-drop n received)
    (both_complete (take n received) (drop n received) one other a b)

-- the keys complete a copy of them
copy_completes : (copy : List (Option ℕ)) (chosen : ℕ) (external : List ℕ) → 2 ≤ length copy
    → IsLetterFor (get_or copy 0 None) chosen → IsLetterFor (get_or copy 1 None) chosen
    → Completes (drop 2 copy) external → Completes copy (chosen ∷ chosen ∷ external)
copy_completes [] chosen external some a b c = absurd (omega (arith, some))
copy_completes (one ∷ []) chosen external some a b c = absurd (omega (arith, some))
copy_completes (one ∷ other ∷ copy) chosen external some a b c = (a, (b, c))

-- some completion of the letters has a text
pub record HasText (s : Day) (i : Option Indicator) (received : List (Option ℕ)) : Type 0 where
  pub whole : List ℕ
  pub text : List ℕ
  pub completes : Completes received whole
  pub is : IsLettersText s i whole text

-- letters with the same keys at the start and at the end, and any other letters
around_keys : (chosen : ℕ) (external middle last : List ℕ) → length external ≡ 6 → length last ≡ 2
    → HasKeysAround ((chosen ∷ chosen ∷ external ++ middle) ++ (chosen ∷ chosen ∷ external ++ last))
around_keys chosen external middle last six two =
    let keys : List ℕ = chosen ∷ chosen ∷ external in
    let front : List ℕ = keys ++ middle in
    let back : List ℕ = keys ++ last in
    let eight : length keys ≡ 8 = omega (arith, six) in
    let ten : length back ≡ 10 = omega (arith, length-append keys last, eight, two) in
    let start : take 8 (front ++ back) ≡ keys =
    ap (take 8) (append_assoc keys middle back) ∙ take_at keys (middle ++ back) 8 eight in
    let size : length (front ++ back) - 10 ≡ length front = omega (arith, length-append front back, ten) in
    let end : drop (length (front ++ back) - 10) (front ++ back) ≡ back =
    ap (λ n. drop n (front ++ back)) size ∙ drop_at front back (length front) refl in
    record { again = start ∙ sym (take_at keys last 8 eight) ∙ sym (ap (take 8) end); twice = refl }

keys_around : (chosen : ℕ) (external middle last : List ℕ) → length external ≡ 6
    → keys_of_body ((chosen ∷ chosen ∷ external ++ middle) ++ (chosen ∷ chosen ∷ external ++ last))
    ≡ record { chosen = chosen; external = external }
keys_around chosen external middle last six =
    let back : List ℕ = chosen ∷ chosen ∷ external ++ last in
    let cut : take 6 ((external ++ middle) ++ back) ≡ external =
    ap (take 6) (append_assoc external middle back) ∙ take_at external (middle ++ back) 6 six in
    λ i. record { chosen = chosen; external = cut i }

pin_has_text : (s : Day) (received : List (Option ℕ)) (keys : PinKeys) (internal : List ℕ) → 20 ≤ length received
    → IsKeysAnswer (start_of received) (end_of received) (Ok keys) → IsWindow (sheet_key s) keys.external
    → IsInternalKey (enciphered_choice s keys) internal → HasText s None received
pin_has_text s received keys internal some read on_wheels is_key =
    let ten = length received - 10 in
    let front = take ten received in
    let back = drop ten received in
    let start = start_of received in
    let end = end_of received in
    let first = ThenNext-Ok read in
    let rest = ThenNext-Ok first.next in
    let chosen = first.found in
    let external = rest.found in
    let size_of_start : length start ≡ 8 = length-take-le 8 received (omega (arith, some)) in
    let size_of_end : length end ≡ 8 = length-take-le 8 back (omega (arith, length-drop {A = Option ℕ}, some)) in
    let same : length (drop 2 start) ≡ length (drop 2 end) =
    omega (arith, length-drop {A = Option ℕ}, size_of_start, size_of_end) in
    let P = λ (got : Option ℕ). IsLetterFor got chosen in
    let each = letter_of_each 0 (chosen_copies start end) chosen first.says in
    let four = each_of_four P (get_or start 0 None) (get_or start 1 None) (get_or end 0 None)
    (get_or end 1 None) each in
    let copies = key_letters_complete 1 (drop 2 start) (drop 2 end) external same rest.says in
    let at_start : Completes start (chosen ∷ chosen ∷ external) =
    copy_completes start chosen external (omega (arith, size_of_start)) four.0 four.1 copies.0 in
    let at_end : Completes end (chosen ∷ chosen ∷ external) =
    copy_completes end chosen external (omega (arith, size_of_end)) four.2 four.3 copies.1 in
    let middle = filled (drop 8 front) in
    let last = filled (drop 8 back) in
    let cut : take 8 front ≡ start = take-take 8 ten received (omega (arith, some)) in
    let here : Completes front (chosen ∷ chosen ∷ external ++ middle) =
    joined_at 8 front (chosen ∷ chosen ∷ external) middle
    (subst (λ l. Completes l (chosen ∷ chosen ∷ external)) (sym cut) at_start) (filled_completes (drop 8 front)) in
    let there : Completes back (chosen ∷ chosen ∷ external ++ last) =
    joined_at 8 back (chosen ∷ chosen ∷ external) last at_end (filled_completes (drop 8 back)) in
    let six : length external ≡ 6 =
    key_letters_length 1 (drop 2 start) (drop 2 end) external same rest.says
    ∙ (omega (arith, length-drop {A = Option ℕ}, size_of_start)) in
    let two_letters : length last ≡ 2 =
    omega (
      arith,
      completes_length (drop 8 back) last (filled_completes
          (drop 8 back)),
      length-drop {A = Option ℕ},
      some,
    ) in
    let whole : List ℕ = (chosen ∷ chosen ∷ external ++ middle) ++ (chosen ∷ chosen ∷ external ++ last) in
    let these : keys_of_body whole ≡ keys = keys_around chosen external middle last six ∙ sym (Yields-Ok rest.next) in
    record {
      whole = whole;
      text = cipher_from s internal (text_of_body whole);
      completes = joined_at ten received (chosen ∷ chosen ∷ external ++ middle)
          (chosen ∷ chosen ∷ external ++ last) here there;
      is = record {
        around = around_keys chosen external middle last six two_letters;
        on_wheels = subst (λ k. IsWindow (sheet_key s) k.external) (sym these) on_wheels;
        internal = internal;
        is_key = subst (λ k. IsInternalKey (enciphered_choice s k) internal) (sym these) is_key;
        is = refl;
      };
    }

pub letters_have_text : (s : Day) (i : Option Indicator) (received : List (Option ℕ)) (shown : DamagedText)
    → (i ≡ None → 20 ≤ length received) → IsDamagedLettersAnswer s i received (Ok shown) → HasText s i received
letters_have_text s (Some i) received shown some read = record {
  whole = filled received;
  text = cipher_from s (deciphered_key s i) (drop 5 (filled received));
  completes = filled_completes received;
  is = refl;
}
letters_have_text s None received shown some read =
    let one = ThenNext-Ok read in
    let two = ThenNext-Ok one.next in
    let three = ThenNext-Ok two.next in
    pin_has_text s received one.found three.found (some refl) one.says two.says three.says

pub shown_there : (s : Day) (i : Option Indicator) (received : List (Option ℕ)) (shown : DamagedText)
    → IsDamagedLettersAnswer s i received (Ok shown) → IsTextShown s i received shown
shown_there s (Some i) received shown read = read
shown_there s None received shown read = (ThenNext-Ok (ThenNext-Ok (ThenNext-Ok read).next).next).next

-- -------- a part

pub record IsSplitWhole (line body whole : List ℕ) : Type 0 where
  pub rest : List ℕ
  pub joined : whole ≡ map meant_byte line ++ 10 ∷ rest
  pub completes : IsCompletion body rest
  pub unbroken : IsWithout 10 (map meant_byte line)

after_line : (body last : List ℕ) → IsCompletion (10 ∷ body) last
    → (rest : List ℕ) × (last ≡ 10 ∷ rest) × IsCompletion body rest
after_line body [] a = absurd a
after_line body (y ∷ rest) (AnyLetter lost capital, a) = absurd (false≢true lost)
after_line body (y ∷ rest) (AsReceived kept is, a) = (rest, ap (λ b. b ∷ rest) is, a)

-- a completion of a part whose heading line has no lost letter begins with this line, in capital letters
pub whole_split : (part line body whole : List ℕ) → IsFirstPart 10 part line body
    → All (λ byte. IsFalse (is_lost byte)) line → IsCompletion part whole → IsSplitWhole line body whole
whole_split part line body whole first kept completes =
    let (front, last, joined, one, other) =
    completion_split line (10 ∷ body) whole (subst (λ t. IsCompletion t whole) first.joined completes) in
    let (rest, is, more) = after_line body last other in
    let same = unlost_line line front kept one in
    record {
      rest = rest;
      joined = cc (joined, is, same);
      completes = more;
      unbroken = subst (IsWithout 10) same (unbroken_whole line front first.without one);
    }

pub least_count : (s : Day) (count : ℕ) (i : Option Indicator) → IsLetterCount s count → HasIndicator s i
    → (0 < count) × (i ≡ None → 20 ≤ count)
least_count (Rotor s) count (Some i) is has = (omega (arith, is), λ none. absurd (cc))
least_count (Rotor s) count None is has = absurd has
least_count (Pin s) count i is has = (omega (arith, is), λ none. omega (arith, is))

-- what a part of two lines shows, from what is known of its lines
two_lines : (s : Day) (part line body : List ℕ) (h : Heading) (shown : DamagedText) → IsFirstPart 10 part line body
    → IsDamagedHeading s line h → All (λ byte. IsFalse (is_lost byte)) line
    → All (λ byte. IsTrue (is_body_byte byte)) body → length (received_letters body) ≡ h.letters
    → IsDamagedLettersAnswer s h.indicator (received_letters body) (Ok shown) → body_of part ≡ body
    → IsPartShown s part shown
two_lines s part line body h shown first headed kept allowed counted read is_body =
    let received = received_letters body in
    let least = least_count s h.letters h.indicator headed.is_heading.letters headed.is_heading.indicator in
    let made = letters_have_text s h.indicator received shown (λ none. omega (arith, least.1 none, counted)) read in
    let seen = shown_there s h.indicator received shown read in
    let back = restored body made.whole allowed made.completes in
    let front = map meant_byte line in
    let is_line = subst (λ l. IsLineText l (line_of (heading_words h))) (nothing_filled line kept) headed.text in
    let front_is : IsCompletion line front = capitals_complete line kept in
    let unbroken = unbroken_whole line front first.without front_is in
    record {
      whole = front ++ 10 ∷ back.rest;
      heading = h;
      text = made.text;
      completes =
          subst (λ p. IsCompletion p (front ++ 10 ∷ back.rest)) (sym first.joined)
          (completion_joined line (10 ∷ body) front (10 ∷ back.rest) front_is (AsReceived refl refl, back.completes));
      some = record {
        body = back.rest;
        has = ended_heading s front back.rest h unbroken headed.is_heading is_line;
        allowed = back.allowed;
        counted =
            ap length back.has ∙ sym (completes_length received made.whole made.completes) ∙ counted;
        read = subst (λ l. IsLettersText s h.indicator l made.text) (sym back.has) made.is;
      };
      each = λ whole other text completes is.
          let split = whole_split part line body whole first kept completes in
          let there =
          subst (λ w. HasHeading s w h split.rest) (sym split.joined)
          (ended_heading s front split.rest h split.unbroken headed.is_heading is_line) in
          let same = one_heading s whole other h is.body split.rest is.has there in
          let letters = letters_from None split.rest in
          let told : IsLettersText s h.indicator letters text =
          subst (λ b. IsLettersText s h.indicator (letters_from None b) text) same.1
          (subst (λ (g : Heading). IsLettersText s g.indicator (letters_from None is.body) text) same.0 is.read) in
          seen.each letters text (letters_complete body split.rest split.completes) told
          ∙ λ i. covered (text_part (sym same.0 i).indicator (received_letters (sym is_body i))) text;
    }

pub part_shown : (s : Day) (part : List ℕ) (shown : DamagedText) → IsDamagedTextAnswer s part (Ok shown)
    → IsPartShown s part shown
part_shown s part shown read =
    let one = ThenNext-Ok read in
    let two = ThenNext-Ok one.next in
    let three = ThenNext-Ok two.next in
    let four = ThenNext-Ok three.next in
    lines_shown s part one.found shown (has_lines part) one.says two.says three.says four.says four.next
  where
    lines_shown : (s : Day) (part : List ℕ) (h : Heading) (shown : DamagedText) → HasLines part
        → IsDamagedHeading s (first_line part) h → All (λ byte. IsFalse (is_lost byte)) (first_line part)
        → All (λ byte. IsTrue (is_body_byte byte)) (body_of part) → length (received_letters (body_of part)) ≡ h.letters
        → IsDamagedLettersAnswer s h.indicator (received_letters (body_of part)) (Ok shown)
        → IsPartShown s part shown
    lines_shown s part h shown (TwoLines first) headed kept allowed counted read =
        two_lines s part (first_line part) (body_of part) h shown first headed kept allowed counted read refl
    lines_shown s part h shown (OneLine none) headed kept allowed counted read =
        let least = least_count s h.letters h.indicator headed.is_heading.letters headed.is_heading.indicator in
        let empty : length (received_letters (body_of part)) ≡ 0 = ap (λ b. length (received_letters b)) none in
        absurd (omega (arith, least.0, empty, counted))

pub answer_shown : (s : Day) (part : List ℕ) (answer : Result DamagedText PartDamage)
    → IsDamagedTextAnswer s part answer
    → IfOk answer (IsPartShown s part)
answer_shown s part (Ok shown) read = part_shown s part shown read
answer_shown s part (Err damage) read = tt

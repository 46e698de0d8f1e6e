-- The external letters in an order's lines of keys, and the pin wheels.
use Rattle.std.proofs.Common.{◌≡◌, ◌≢◌, ◌∙◌, ℕ, zero, suc, ◌+◌, ◌-◌, ◌<◌, ◌≤◌, ◌==◌, ◌⊎◌, Bool, true, false, not, All}
use Rattle.std.proofs.Common.{List, [], ◌∷◌, ◌++◌, Option, Some, None, Result, Ok, Err, ap, arith, codes, cond, drop}
use Rattle.std.proofs.Common.{get_or, inl, inr, length, refl, subst, sym, take, nat_le, append_assoc, ◌&&◌, Contains}
use Rattle.std.proofs.Common.{length-append}
use Rattle.std.proofs.Math.{ListN.get_or-append, Seq.get_or-append_seam}
use Rattle.std.proofs.lemmas.Bool.{Decides.nat_tests, cases_Bool, cases_lt}
use Rattle.std.proofs.lemmas.List.{length-take-le, drop_at, get_or-append-add, get_or-drop, get_or-map, length-drop}
use Rattle.std.proofs.lemmas.List.{length-map, drop-drop, Sums.AllPass-from_list_all}
use Rattle.std.proofs.lemmas.List.Elements.{All-append, All-cons, All-head, All-map, All-nil, All-tail, All-weaker}
use Rattle.std.proofs.lemmas.Option.{slice_get-get_or}
use Rattle.std.specs.List.{find, list_all, range_with_len}
use Rattle.std.specs.Option.{is_some, option_map_or}
use Rattle.kd_tables.specs.Rings.{place_on, ring_of}
use Rattle.kd_tables.specs.Text.{letters_text}
use Rattle.kd_state.specs.AnswerRules.{GoesOn, HasFault}
use Rattle.kd_state.specs.Machine.{AreOnWheels}
use Rattle.kd_state.specs.SheetDay.{Day, PinDay, Rotor, Pin}
use Rattle.kd_state.proofs.OneAnswer.{ThenNext-Ok}
use Rattle.kd_state.proofs.Slots.{are_on_wheels, has_letter-Decides, is_some-place_on, stand_on_wheels}
use Rattle.kd_form.specs.declared.fault.FormFault.{FormFault}
use Rattle.kd_form.specs.declared.fault.FormFault.TheVariants.{KeyNotOnWheel}
use Rattle.kd_form.specs.declared.keys.Keys.{Keys}
use Rattle.kd_form.specs.declared.keys.Keys.TheVariants.{Rotor, Pin}
use Rattle.kd_form.specs.declared.keys.PinKeys.{PinKeys}
use Rattle.kd_form.specs.InTurn.{InTurn}
use Rattle.kd_form.specs.Keys.{AreKeys, ArePinKeys}
use Rattle.kd_form.specs.Order.{BeginsWithKeys, IsLineWithEnd, IsOrder}
use Rattle.kd_form.specs.PartMaking.{IsKeysAnswer}
use Rattle.kd_form.proofs.OneOrder.{all_of_the_day}
use Rattle.kd_form.proofs.Rules.{FaultsAre, FaultsAre-Finds, FaultsAre-InTurn, FaultsAre-ThenNext, FaultsAre-Yields}
use Rattle.kd_findings.specs.NotToml.{begins_character, column_at}
use Rattle.kd_findings.proofs.Columns.{characters_to_feed-more}
use Rattle.kd_look.specs.Laws.{GroupWrong, HasKeyLineForm, IsDaysFault, NoInternalKey}
use Rattle.kd_look.specs.Order.{is_off_wheel, is_off_wheel_at, wheels_answer}
use Rattle.kd_look.specs.declared.message.fault.MessageFault.{MessageFault}
use Rattle.kd_look.specs.declared.message.fault.Reason.TheVariants as reasons
use Rattle.kd_look.specs.declared.message.order_head.KeyLine.{KeyLine}
use Rattle.kd_look.specs.declared.message.order_head.KeyLine.TheVariants as lines

-- -------- columns

-- the byte begins a character, and is no line feed
abbrev pub IsOrdinary : ℕ → Type 0
IsOrdinary byte = (byte ≢ 10) × (byte < 128)

column-next : (text : List ℕ) (index : ℕ) → index < length text → IsOrdinary (get_or text index 0)
    → column_at text (index + 1) ≡ column_at text index + 1
column-next text index inside ordinary =
    let other : (get_or text index 0 == 10) ≡ false = grind (arith, nat_tests) in
    let begins : begins_character (get_or text index 0) ≡ true = grind (arith, nat_tests) in
    let more = characters_to_feed-more text index 0 inside in
    simp (other, begins) at (ap (λ n. n + 1) more)

column-fresh : (text : List ℕ) (index : ℕ) → index < length text → get_or text index 0 ≡ 10
    → column_at text (index + 1) ≡ 1
column-fresh text index inside feed =
    let same : (get_or text index 0 == 10) ≡ true = grind (arith, nat_tests) in
    let more = characters_to_feed-more text index 0 inside in
    simp same at (ap (λ n. n + 1) more)

column-on : (text : List ℕ) (start count : ℕ) → column_at text start ≡ 1 → start + count ≤ length text
    → ((i : ℕ) → i < count → IsOrdinary (get_or text (start + i) 0)) → column_at text (start + count) ≡ count + 1
column-on text start zero first inside ordinary =
    let same : start + 0 ≡ start = omega arith in rw same first
column-on text start (suc count) first inside ordinary =
    let place : start + suc count ≡ start + count + 1 = omega arith in
    let before = column-on text start count first (omega (arith, inside))
    (λ i less. ordinary i (omega (arith, less))) in
    rw place (column-next text (start + count) (omega (arith, inside)) (ordinary count (omega arith))
    ∙ ap (λ n. n + 1) before ∙ omega arith)

-- bytes are ordinary if a computed test passes for each of them
pub ordinary_codes : (text : List ℕ) → list_all (λ byte. nat_le 32 byte && nat_le byte 127) text ≡ true
    → All IsOrdinary text
ordinary_codes text passes = All-weaker (λ byte. (nat_le 32 byte && nat_le byte 127) ≡ true) IsOrdinary
    (λ byte fits. grind (arith, nat_tests, cases_Bool (nat_le 32 byte))) text
    (AllPass-from_list_all (λ byte. nat_le 32 byte && nat_le byte 127) text passes)

-- -------- one line of an order

-- In the text, the line `line` begins at `start`, and `rest` follows it. All bytes of the line are
-- ordinary, but for the LF at its end.
pub record IsLineFrom (text : List ℕ) (start : ℕ) (line rest : List ℕ) : Type 0 where
  pub body : List ℕ
  pub ended : line ≡ body ++ 10 ∷ []
  pub ordinary : All IsOrdinary body
  pub first : column_at text start ≡ 1
  pub joined : drop start text ≡ line ++ rest

module _ {text : List ℕ} {start : ℕ} {line rest : List ℕ} (is : IsLineFrom text start line rest) where
  size : length line ≡ length is.body + 1
  size = ap length is.ended ∙ length-append is.body (10 ∷ [])

  within : start + length line ≤ length text
  within = omega (arith, size, ap length is.joined, length-drop start text, length-append line rest)

  byte_at : (i : ℕ) → i < length line → get_or text (start + i) 0 ≡ get_or line i 0
  byte_at i less =
      sym (get_or-drop start text i 0) ∙ ap (λ l. get_or l i 0) is.joined ∙ get_or-append line rest 0 i less

  body_at : (i : ℕ) → i < length is.body → get_or line i 0 ≡ get_or is.body i 0
  body_at i less = ap (λ l. get_or l i 0) is.ended ∙ get_or-append is.body (10 ∷ []) 0 i less

  pub column_of : (i : ℕ) → i < length line → column_at text (start + i) ≡ i + 1
  column_of i less = column-on text start i is.first (omega (arith, within, less)) (λ j before.
      subst IsOrdinary (sym (byte_at j (omega (arith, before, less)) ∙ body_at j (omega (arith, before, less, size))))
      (is.ordinary j 0 (omega (arith, before, less, size))))

  pub next_first : column_at text (start + length line) ≡ 1
  next_first =
      let place : start + length line ≡ start + length is.body + 1 = omega (arith, size) in
      let last : get_or text (start + length is.body) 0 ≡ 10 =
      byte_at (length is.body) (omega (arith, size)) ∙ ap (λ l. get_or l (length is.body) 0) is.ended
      ∙ get_or-append_seam is.body 10 [] 0 in
      rw place (column-fresh text (start + length is.body) (omega (arith, within, size)) last)

  pub next_joined : drop (start + length line) text ≡ rest
  next_joined = sym (drop-drop (length line) start text) ∙ ap (drop (length line)) is.joined ∙ drop_at line rest
      (length line) refl

  -- the test of the byte at a place of the line
  off_at : (i : ℕ) → i < length line → is_off_wheel_at text (start + i) ≡ is_off_wheel (i + 1) (get_or line i 0)
  off_at i less =
      let there = slice_get-get_or text (start + i) 0 (omega (arith, within, less)) in
      let column = column_of i less in
      let byte = byte_at i less in
      rw (there, column, byte) refl

-- -------- which letters are tested, and how

outside : (column byte : ℕ) → ((column < 8) ⊎ (13 < column)) → is_off_wheel column byte ≡ false
outside column byte (inl low) = grind (arith, nat_tests)
outside column byte (inr high) = grind (arith, nat_tests, cases_Bool (nat_le 8 column))

-- the test of a letter in the column for a wheel
letter_off : (wheel letter : ℕ) → 1 ≤ wheel → wheel ≤ 6 → letter < 26
    → is_off_wheel (wheel + 7) (letter + 65) ≡ not (is_some (place_on (ring_of wheel) letter))
letter_off wheel letter first last small =
    let number : wheel + 7 - 7 ≡ wheel = omega arith in
    let same : letter + 65 - 65 ≡ letter = omega arith in
    let low : nat_le 8 (wheel + 7) ≡ true = grind (arith, nat_tests) in
    let high : nat_le (wheel + 7) 13 ≡ true = grind (arith, nat_tests) in
    let capital : nat_le 65 (letter + 65) ≡ true = grind (arith, nat_tests) in
    let also : nat_le (letter + 65) 90 ≡ true = grind (arith, nat_tests) in
    rw (low, high, capital, also, number, same) refl

on_wheel : (wheel letter : ℕ) → 1 ≤ wheel → wheel ≤ 6 → letter < 26 → Contains (ring_of wheel) letter
    → is_off_wheel (wheel + 7) (letter + 65) ≡ false
on_wheel wheel letter first last small there =
    letter_off wheel letter first last small
    ∙ ap not (is_some-place_on (ring_of wheel) letter ∙ (has_letter-Decides (ring_of wheel) letter).1 there)

from_test : (wheel letter : ℕ) → 1 ≤ wheel → wheel ≤ 6 → letter < 26 → is_off_wheel (wheel + 7) (letter + 65) ≡ false
    → Contains (ring_of wheel) letter
from_test wheel letter first last small off =
    let not_off : not (is_some (place_on (ring_of wheel) letter)) ≡ false = sym
    (letter_off wheel letter first last small) ∙ off in
    let is : is_some (place_on (ring_of wheel) letter) ≡ true = grind (arith, cases_Bool) in
    (has_letter-Decides (ring_of wheel) letter).0 (sym (is_some-place_on (ring_of wheel) letter) ∙ is)

-- -------- a line of keys

-- the line with the keys `k`, without its end
abbrev pub pin_text : PinKeys → List ℕ
pin_text k = codes "PART " ++ (k.chosen + 65) ∷ 32 ∷ letters_text k.external

ordinary_text : (k : PinKeys) → ArePinKeys k → All IsOrdinary (pin_text k)
ordinary_text k are = All-append IsOrdinary (codes "PART ") ((k.chosen + 65) ∷ 32 ∷ letters_text k.external)
    (ordinary_codes (codes "PART ") refl)
    (All-cons IsOrdinary (k.chosen + 65) (32 ∷ letters_text k.external) (grind (arith, are.chosen))
    (All-cons IsOrdinary 32 (letters_text k.external) (grind arith)
    (All-map IsOrdinary (λ l. l + 65) k.external
    (λ i d inside. let small = are.external.within i d inside in grind (arith, small)))))

pub line_from : {text : List ℕ} {start : ℕ} {line rest : List ℕ} (words : List ℕ) → All IsOrdinary words
    → IsLineWithEnd words line
    → column_at text start ≡ 1 → drop start text ≡ line ++ rest → IsLineFrom text start line rest
line_from words ordinary (inl ended) first joined =
    record { body = words; ended = ended; ordinary = ordinary; first = first; joined = joined }
line_from words ordinary (inr ended) first joined = record {
  body = words ++ 13 ∷ [];
  ended = ended ∙ sym (append_assoc words (13 ∷ []) (10 ∷ []));
  ordinary = All-append IsOrdinary words (13 ∷ []) ordinary
      (All-cons IsOrdinary 13 [] (grind arith) (All-nil IsOrdinary));
  first = first;
  joined = joined;
}

pub with_tail : (words line : List ℕ) → IsLineWithEnd words line → (tail : List ℕ) × (line ≡ words ++ tail)
with_tail words line (inl ended) = (10 ∷ [], ended)
with_tail words line (inr ended) = (13 ∷ 10 ∷ [], ended)

module _ (k : PinKeys) (are : ArePinKeys k) (line : List ℕ) (ended : IsLineWithEnd (pin_text k) line) where
  module _ (wheel : ℕ) (first : 1 ≤ wheel) (last : wheel ≤ 6) where
    letter_inside : wheel - 1 < length k.external
    letter_inside = omega (arith, are.external.count)

    external_byte : get_or line (wheel + 6) 0 ≡ get_or k.external (wheel - 1) 0 + 65
    external_byte =
        let (tail, joined) = with_tail (pin_text k) line ended in
        let front : List ℕ = codes "PART " ++ (k.chosen + 65) ∷ 32 ∷ [] in
        let place : wheel + 6 ≡ 7 + (wheel - 1) = omega arith in
        let inside : wheel - 1 < length (letters_text k.external) =
        omega (arith, letter_inside, length-map k.external (λ l. l + 65)) in
        ap (λ l. get_or l (wheel + 6) 0) joined ∙ ap (λ n. get_or (pin_text k ++ tail) n 0) place
        ∙ get_or-append-add front (letters_text k.external ++ tail) (wheel - 1) 0
        ∙ get_or-append (letters_text k.external) tail 0 (wheel - 1) inside
        ∙ get_or-map (λ l. l + 65) k.external (wheel - 1) 0 0 letter_inside

    letter_small : get_or k.external (wheel - 1) 0 < 26
    letter_small = are.external.within (wheel - 1) 0 letter_inside

    column_same : wheel + 6 + 1 ≡ wheel + 7
    column_same = omega arith

    line_long : wheel + 6 < length line
    line_long =
        let (tail, joined) = with_tail (pin_text k) line ended in
        omega (
          arith,
          ap length joined,
          length-append (pin_text k) tail,
          length-map k.external (λ l. l + 65),
          are.external.count,
        )

  -- a line with letters that are on their wheels has no letter off its wheel
  pin_line_on : AreOnWheels k.external → (i : ℕ) → is_off_wheel (i + 1) (get_or line i 0) ≡ false
  pin_line_on on i = elim (cases_lt (i + 1) 8) [
    | inl low ↦ outside (i + 1) (get_or line i 0) (inl low)
    | inr high ↦ elim (cases_lt 13 (i + 1)) [
      | inl above ↦ outside (i + 1) (get_or line i 0) (inr above)
      | inr below ↦
          let first : 1 ≤ i - 6 = omega (arith, high) in
          let last : i - 6 ≤ 6 = omega (arith, below) in
          let place : i - 6 + 6 ≡ i = omega (arith, high) in
          let off = on_wheel (i - 6) (get_or k.external (i - 6 - 1) 0) first last (letter_small (i - 6) first last)
          (stand_on_wheels k.external on (i - 6) first last) in
          let test : is_off_wheel (i - 6 + 6 + 1) (get_or line (i - 6 + 6) 0) ≡ false =
          rw (external_byte (i - 6) first last, column_same (i - 6) first last) off in
          subst (λ n. is_off_wheel (n + 1) (get_or line n 0) ≡ false) place test
    ]
  ]

  pin_line_from : ((i : ℕ) → i < length line → is_off_wheel (i + 1) (get_or line i 0) ≡ false)
      → AreOnWheels k.external
  pin_line_from none = are_on_wheels k.external are.external.count (λ wheel first last.
      from_test wheel (get_or k.external (wheel - 1) 0) first last (letter_small wheel first last)
      (rw (external_byte wheel first last, column_same wheel first last) at
      (none (wheel + 6) (line_long wheel first last))))

-- -------- a whole head

-- the external letters of keys, if there are any, are on their wheels
abbrev pub AreLettersOnWheels : Keys → Type 0
AreLettersOnWheels (Rotor k) = Unit {0}
AreLettersOnWheels (Pin k) = AreOnWheels k.external

module _ (s : PinDay) (order text : List ℕ) where
  text_on : (bytes : List ℕ) (start : ℕ) → IsLineWithEnd (codes "TEXT") bytes → column_at order start ≡ 1
      → drop start order ≡ bytes ++ text → (i : ℕ) → i < length bytes → is_off_wheel_at order (start + i) ≡ false
  text_on bytes start ended first joined i less =
      let is : IsLineFrom order start bytes text = line_from (codes "TEXT")
      (ordinary_codes (codes "TEXT") refl) ended first joined in
      let (tail, whole) = with_tail (codes "TEXT") bytes ended in
      let short : length bytes ≤ 6 = grind arith in
      off_at is i less ∙ outside (i + 1) (get_or bytes i 0) (inl (omega (arith, short, less)))

  head_on : (keys : List Keys) (bytes : List ℕ) (start : ℕ)
      → BeginsWithKeys (Pin s) keys (IsLineWithEnd (codes "TEXT")) bytes → column_at order start ≡ 1
      → drop start order ≡ bytes ++ text → All AreLettersOnWheels keys
      → (i : ℕ) → i < length bytes → is_off_wheel_at order (start + i) ≡ false
  head_on [] bytes start ended first joined on i less = text_on bytes start ended first joined i less
  head_on (Rotor k ∷ keys) bytes start (line, rest, are, keyed, more, whole) first joined on i less = absurd are
  head_on (Pin k ∷ keys) bytes start (line, rest, are, keyed, more, whole) first joined on i less =
      let next : drop start order ≡ line ++ (rest ++ text) =
      joined ∙ ap (λ l. l ++ text) whole ∙ append_assoc line rest text in
      let is : IsLineFrom order start line (rest ++ text) = line_from (pin_text k)
      (ordinary_text k are) keyed first next in
      elim (cases_lt i (length line)) [
        | inl here ↦ off_at is i here
            ∙ pin_line_on k are line keyed (All-head AreLettersOnWheels (Pin k) keys on) i
        | inr beyond ↦
            let place : start + length line + (i - length line) ≡ start + i = omega (arith, beyond) in
            let inside : i - length line < length rest =
            omega (arith, less, beyond, ap length whole, length-append line rest) in
            subst (λ n. is_off_wheel_at order n ≡ false) place
            (head_on keys rest (start + length line) more (next_first is) (next_joined is)
            (All-tail AreLettersOnWheels (Pin k) keys on) (i - length line) inside)
      ]

  head_from : (keys : List Keys) (bytes : List ℕ) (start : ℕ)
      → BeginsWithKeys (Pin s) keys (IsLineWithEnd (codes "TEXT")) bytes → column_at order start ≡ 1
      → drop start order ≡ bytes ++ text
      → ((i : ℕ) → i < length bytes → is_off_wheel_at order (start + i) ≡ false) → All AreLettersOnWheels keys
  head_from [] bytes start ended first joined none = All-nil AreLettersOnWheels
  head_from (Rotor k ∷ keys) bytes start (line, rest, are, keyed, more, whole) first joined none = absurd are
  head_from (Pin k ∷ keys) bytes start (line, rest, are, keyed, more, whole) first joined none =
      let next : drop start order ≡ line ++ (rest ++ text) =
      joined ∙ ap (λ l. l ++ text) whole ∙ append_assoc line rest text in
      let is : IsLineFrom order start line (rest ++ text) = line_from (pin_text k)
      (ordinary_text k are) keyed first next in
      let long : length bytes ≡ length line + length rest = ap length whole ∙ length-append line rest in
      All-cons AreLettersOnWheels (Pin k) keys
      (pin_line_from k are line keyed (λ i less. sym (off_at is i less) ∙ none i (omega (arith, less, long))))
      (head_from keys rest (start + length line) more (next_first is) (next_joined is) (λ i less.
      let place : start + (length line + i) ≡ start + length line + i = omega arith in
      subst (λ n. is_off_wheel_at order n ≡ false) place (none (length line + i) (omega (arith, less, long)))))

-- -------- the first of some numbers that passes a test

find_none : (test : ℕ → Bool) (first count : ℕ) → ((i : ℕ) → i < count → test (first + i) ≡ false)
    → find test (range_with_len first count) ≡ None
find_none test first zero none = refl
find_none test first (suc count) none =
    let place : first + 0 ≡ first = omega arith in
    let here : test first ≡ false = subst (λ n. test n ≡ false) place (none 0 (omega arith)) in
    rw here (find_none test (first + 1) count (λ i less.
    let next : first + (i + 1) ≡ first + 1 + i = omega arith in
    subst (λ n. test n ≡ false) next (none (i + 1) (omega (arith, less)))))

no_first : (passes : Bool) (first : ℕ) (others : Option ℕ) → cond passes (Some first) others ≡ None
    → (passes ≡ false) × (others ≡ None)
no_first true first others none = absurd (cc)
no_first false first others none = (refl, none)

find_none-fails : (test : ℕ → Bool) (first count : ℕ) → find test (range_with_len first count) ≡ None
    → (i : ℕ) → i < count → test (first + i) ≡ false
find_none-fails test first zero none i less = absurd (omega (arith, less))
find_none-fails test first (suc count) none zero less =
    let place : first + 0 ≡ first = omega arith in
    rw place (no_first (test first) first (find test (range_with_len (first + 1) count)) none).0
find_none-fails test first (suc count) none (suc i) less =
    let place : first + suc i ≡ first + 1 + i = omega arith in
    rw place (find_none-fails test (first + 1) count
    (no_first (test first) first (find test (range_with_len (first + 1) count)) none).1 i (omega (arith, less)))

-- An external letter isn't on its wheel, so the keys don't suit the day.
pub record IsOffWheel (s : Day) (keys : List Keys) (found : FormFault) : Type 0 where
  pub is : found ≡ KeyNotOnWheel
  pub unsuited : ¬ (InTurn (IsKeysAnswer s) 1 keys (Ok tt))
  pub faults : (fault : FormFault) → InTurn (IsKeysAnswer s) 1 keys (Err fault)
      → (fault ≡ KeyNotOnWheel) ⊎ IsDaysFault fault

-- what the answer of the test of external letters says of keys
abbrev pub AreWheelsTested : Day → List Keys → Result (Unit {0}) MessageFault → Type 0
AreWheelsTested s keys (Ok done) = (fault : FormFault) → InTurn (IsKeysAnswer s) 1 keys (Err fault) → IsDaysFault fault
AreWheelsTested s keys (Err found) = IsOffWheel s keys found.fault

-- -------- the keys, and the day

key_fault : (s : Day) (k : Keys) (part : ℕ) → AreKeys s k → AreLettersOnWheels k → (fault : FormFault)
    → IsKeysAnswer s part k (Err fault) → IsDaysFault fault
key_fault (Rotor s) (Rotor k) part are on fault (none, is) = GroupWrong part is
key_fault (Rotor s) (Pin k) part are on fault found = absurd are
key_fault (Pin s) (Rotor k) part are on fault found = absurd are
key_fault (Pin s) (Pin k) part are on fault (HasFault other (none, e) is) = absurd (none tt on)
key_fault (Pin s) (Pin k) part are on fault (GoesOn done passed (HasFault other (none, e) is)) =
    NoInternalKey part (cc (is, e))
key_fault (Pin s) (Pin k) part are on fault (GoesOn done passed (GoesOn internal found is)) = absurd (cc (is))

-- if all letters are on their wheels, only the day shows a fault of the keys
keys_fault : (s : Day) (keys : List Keys) (number : ℕ) → All (AreKeys s) keys → All AreLettersOnWheels keys
    → (fault : FormFault) → InTurn (IsKeysAnswer s) number keys (Err fault) → IsDaysFault fault
keys_fault s [] number are on fault found = absurd (cc (found))
keys_fault s (k ∷ keys) number are on fault (HasFault other found is) =
    let same : other ≡ fault = cc (is) in
    subst IsDaysFault same
    (key_fault s k number (All-head (AreKeys s) k keys are) (All-head AreLettersOnWheels k keys on) other found)
keys_fault s (k ∷ keys) number are on fault (GoesOn done passed found) =
    keys_fault s keys (number + 1) (All-tail (AreKeys s) k keys are) (All-tail AreLettersOnWheels k keys on) fault found

rotor_on : (s : Day) (form : KeyLine) → form ≢ lines.Converter → HasKeyLineForm s form → (k : Keys) → AreKeys s k
    → AreLettersOnWheels k
rotor_on (Rotor s) form other same (Rotor k) are = tt
rotor_on (Rotor s) form other same (Pin k) are = absurd are
rotor_on (Pin s) lines.ThreeSlots other same k are = absurd same
rotor_on (Pin s) lines.FourSlots other same k are = absurd same
rotor_on (Pin s) lines.Converter other same k are = absurd (other refl)

suited_on : (s : PinDay) (keys : List Keys) (number : ℕ) → All (AreKeys (Pin s)) keys
    → InTurn (IsKeysAnswer (Pin s)) number keys (Ok tt) → All AreLettersOnWheels keys
suited_on s [] number are suited = All-nil AreLettersOnWheels
suited_on s (Rotor k ∷ keys) number are suited = absurd (All-head (AreKeys (Pin s)) (Rotor k) keys are)
suited_on s (Pin k ∷ keys) number are suited =
    let first = ThenNext-Ok suited in
    All-cons AreLettersOnWheels (Pin k) keys (ThenNext-Ok first.says).says
    (suited_on s keys (number + 1) (All-tail (AreKeys (Pin s)) (Pin k) keys are) first.next)

any_fault : (s : Day) (part : ℕ) (k : Keys)
    → FaultsAre (λ fault. (fault ≡ KeyNotOnWheel) ⊎ IsDaysFault fault) (IsKeysAnswer s part k)
any_fault s part (Rotor k) = FaultsAre-Finds (inr (GroupWrong part refl))
any_fault s part (Pin k) = FaultsAre-ThenNext (FaultsAre-Finds (inl refl)) (λ _.
    FaultsAre-ThenNext (FaultsAre-Finds (inr (NoInternalKey part refl))) (λ _. FaultsAre-Yields))

slots_tested : (s : Day) (form : KeyLine) (order : List ℕ) (start : ℕ) (keys : List Keys) → form ≢ lines.Converter
    → HasKeyLineForm s form → IsOrder s order keys (take start order) (drop start order)
    → AreWheelsTested s keys (Ok tt)
slots_tested s form order start keys other same is fault found =
    let are = all_of_the_day _ s keys (take start order) is.is_head.lines in
    keys_fault s keys 1 are (All-weaker (AreKeys s) AreLettersOnWheels (rotor_on s form other same) keys are) fault
    found

module _ (s : PinDay) (order : List ℕ) (start : ℕ) (keys : List Keys) (inside : start ≤ length order)
    (is : IsOrder (Pin s) order keys (take start order) (drop start order)) where
  abbrev are : All (AreKeys (Pin s)) keys
  are = all_of_the_day _ (Pin s) keys (take start order) is.is_head.lines

  count : length (take start order) ≡ start
  count = length-take-le start order inside

  converter_tested : (found : Option ℕ) → find (is_off_wheel_at order) (range_with_len 0 start) ≡ found
      → AreWheelsTested (Pin s) keys (option_map_or
      (λ index. Err (record { index = index; fault = KeyNotOnWheel; reason = reasons.OffWheel })) found (Ok tt))
  converter_tested None none =
      let on = head_from s order (drop start order) keys (take start order) 0 is.is_head.lines refl is.joined (λ i less.
      find_none-fails (is_off_wheel_at order) 0 start none i (omega (arith, less, count))) in
      λ fault found. keys_fault (Pin s) keys 1 are on fault found
  converter_tested (Some index) some = record {
    is = refl;
    unsuited = λ suited.
        let on = suited_on s keys 1 are suited in
        let none = find_none (is_off_wheel_at order) 0 start (λ i less.
        head_on s order (drop start order) keys (take start order) 0 is.is_head.lines refl is.joined on i
        (omega (arith, less, count))) in
        cc (none, some);
    faults = (FaultsAre-InTurn (any_fault (Pin s)) 1 keys).are;
  }

pub wheels_agree : (s : Day) (form : KeyLine) (order : List ℕ) (start : ℕ) (keys : List Keys) → start ≤ length order
    → HasKeyLineForm s form → IsOrder s order keys (take start order) (drop start order)
    → AreWheelsTested s keys (wheels_answer order form start)
wheels_agree s lines.ThreeSlots order start keys inside same is =
    slots_tested s lines.ThreeSlots order start keys (λ same. cc) same is
wheels_agree s lines.FourSlots order start keys inside same is =
    slots_tested s lines.FourSlots order start keys (λ same. cc) same is
wheels_agree (Rotor s) lines.Converter order start keys inside same is = absurd same
wheels_agree (Pin s) lines.Converter order start keys inside same is =
    converter_tested s order start keys inside is (find (is_off_wheel_at order) (range_with_len 0 start)) refl

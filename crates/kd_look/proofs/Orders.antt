-- What `look` says of a whole order, and what `send` says of it.
use Rattle.std.proofs.Common.{◌≡◌, ◌≢◌, ◌∙◌, ℕ, ◌+◌, ◌==◌, ◌⊎◌, Bool, true, false, not, List, [], ◌∷◌, Option, Some}
use Rattle.std.proofs.Common.{None, Result, Ok, Err, IsTrue, ap, arith, cond, drop, inl, inr, length, refl, subst}
use Rattle.std.proofs.Common.{sym, take, option_to_list}
use Rattle.std.proofs.lemmas.Bool.{Decides.nat_tests, cases_Bool, false≢true}
use Rattle.std.proofs.lemmas.Iterator.Adapters.{position_from-zero}
use Rattle.std.proofs.lemmas.List.{length-append, length-take-le, nil_from_length, Sums.sum_by-cons}
use Rattle.std.specs.List.{count_by, position, position_from}
use Rattle.std.specs.Option.{option_map_or}
use Rattle.kd_tables.specs.Text.{is_text_byte}
use Rattle.kd_state.specs.AnswerRules.{GoesOn, HasFault, ThenNext}
use Rattle.kd_state.specs.SheetDay.{Day, Rotor, Pin}
use Rattle.kd_form.specs.declared.fault.FormFault.{FormFault}
use Rattle.kd_form.specs.declared.fault.FormFault.TheVariants.{BadByte, EmptyText, PartKeys}
use Rattle.kd_form.specs.declared.keys.Keys.{Keys}
use Rattle.kd_form.specs.InTurn.{InTurn}
use Rattle.kd_form.specs.Order.{IsOrder}
use Rattle.kd_form.specs.PartMaking.{IsKeysAnswer, part_size}
use Rattle.kd_form.specs.Sending.{IsBytesAnswer, IsHeadAnswer, IsMadeAnswer, IsOrderAnswer, IsReadAnswer, OrderParts}
use Rattle.kd_form.specs.Sending.{letter_of_byte, parts_needed, space_letter, text_letters}
use Rattle.kd_form.proofs.Lines.{letters_first}
use Rattle.kd_form.proofs.OneOrder.{HasOneAnswer-read, no_head_fault, one_order, orders_have_one_answer}
use Rattle.kd_sheet.specs.Document.{◌>>=◌, ◌>>◌}
use Rattle.kd_look.specs.Laws.{FaultlessOrdersAreSent, HasHeadTo, HasKeyLineForm, IsDaysFault, IsRefusedByDay}
use Rattle.kd_look.specs.Laws.{OrderFaultsAreThoseOfSend}
use Rattle.kd_look.specs.Order.{gives_letter, keys_given, letter_count, order_answer, part_letters, parts_answer}
use Rattle.kd_look.specs.Order.{signs_answer, text_start, wheels_answer}
use Rattle.kd_look.specs.Order as looks
use Rattle.kd_look.specs.Signs.{wrong_sign}
use Rattle.kd_look.specs.declared.message.fault.MessageFault.{MessageFault}
use Rattle.kd_look.specs.declared.message.fault.Reason.{Reason}
use Rattle.kd_look.specs.declared.message.fault.Reason.TheVariants as reasons
use Rattle.kd_look.specs.declared.message.order_head.KeyLine.{KeyLine}
use Rattle.kd_look.specs.declared.message.order_head.KeyLine.TheVariants as lines
use Rattle.kd_look.proofs.Heads.{head_ends_agree, head_faults_agree}
use Rattle.kd_look.proofs.Wheels.{AreWheelsTested, wheels_agree}

-- -------- the machine that an order is for

pub sizes_agree : (s : Day) (form : KeyLine) → HasKeyLineForm s form → part_letters form ≡ part_size s
sizes_agree (Rotor s) lines.ThreeSlots same = refl
sizes_agree (Rotor s) lines.FourSlots same = refl
sizes_agree (Rotor s) lines.Converter same = absurd same
sizes_agree (Pin s) lines.ThreeSlots same = absurd same
sizes_agree (Pin s) lines.FourSlots same = absurd same
sizes_agree (Pin s) lines.Converter same = refl

letters_agree : (s : Day) (form : KeyLine) → HasKeyLineForm s form → (byte : ℕ)
    → length (option_to_list (letter_of_byte (space_letter s) byte)) ≡ cond (gives_letter form byte) 1 0
letters_agree (Rotor s) lines.ThreeSlots same byte = grind (arith, cases_Bool)
letters_agree (Rotor s) lines.FourSlots same byte = grind (arith, cases_Bool)
letters_agree (Rotor s) lines.Converter same byte = absurd same
letters_agree (Pin s) lines.ThreeSlots same byte = absurd same
letters_agree (Pin s) lines.FourSlots same byte = absurd same
letters_agree (Pin s) lines.Converter same byte = grind (arith, cases_Bool)

counts_agree : (s : Day) (form : KeyLine) → HasKeyLineForm s form → (text : List ℕ)
    → length (text_letters s text) ≡ count_by (gives_letter form) text
counts_agree s form same [] = refl
counts_agree s form same (byte ∷ text) =
    let one = letters_agree s form same byte in
    let rest = counts_agree s form same text in
    ap length (letters_first (space_letter s) byte text)
    ∙ length-append (option_to_list (letter_of_byte (space_letter s) byte)) (text_letters s text)
    ∙ omega (arith, one, rest)
    ∙ sym (sum_by-cons (λ b. cond (gives_letter form b) 1 0) byte text)

-- -------- what `send` answers

module _ {s : Day} {order head text : List ℕ} {keys : List Keys} (is : IsOrder s order keys head text) where
  -- the answer tells that the order's keys suit the day, or it is the fault of keys that don't
  abbrev pub TellsOfKeys : {X : Type 0} → Result X FormFault → Type 0
  TellsOfKeys answer = InTurn (IsKeysAnswer s) 1 keys (Ok tt)
      ⊎ ((fault : FormFault) × InTurn (IsKeysAnswer s) 1 keys (Err fault) × (answer ≡ Err fault))

  head_decides : (answer : Result OrderParts FormFault) → IsHeadAnswer s order answer → TellsOfKeys answer
  head_decides answer (HasFault fault (position, at, e) d) = absurd
      (no_head_fault s order keys head text position is at)
  head_decides answer (GoesOn parts other (HasFault fault unsuited d)) =
      let same = one_order s order parts.keys keys parts.head head parts.text text other is in
      inr (fault, subst (λ k. InTurn (IsKeysAnswer s) 1 k (Err fault)) same.0 unsuited, d)
  head_decides answer (GoesOn parts other (GoesOn done suited d)) =
      let same = one_order s order parts.keys keys parts.head head parts.text text other is in
      inl (subst (λ k. InTurn (IsKeysAnswer s) 1 k (Ok tt)) same.0 suited)

  -- if the first of two steps tells of the keys, so do both
  both_decide : {X Y : Type 0} (First : Result X FormFault → Type 0) (Next : X → Result Y FormFault → Type 0)
      → ((answer : Result X FormFault) → First answer → TellsOfKeys answer)
      → (answer : Result Y FormFault) → ThenNext First Next answer → TellsOfKeys answer
  both_decide First Next first answer (HasFault fault found d) = elim (first (Err fault) found) [
    | inl suited ↦ inl suited
    | inr unsuited ↦ inr (unsuited.0, unsuited.1, cc (d, unsuited.2))
  ]
  both_decide First Next first answer (GoesOn x found next) = elim (first (Ok x) found) [
    | inl suited ↦ inl suited
    | inr unsuited ↦ absurd (cc (unsuited.2))
  ]

  read_decides : (answer : Result OrderParts FormFault) → IsReadAnswer s order answer → TellsOfKeys answer
  read_decides = both_decide (IsHeadAnswer s order) _ head_decides

  -- the answer for an order tells whether its keys suit the day
  pub keys_decide : (answer : Result (List ℕ) FormFault) → IsOrderAnswer s order answer → TellsOfKeys answer
  keys_decide = both_decide (IsReadAnswer s order) _ read_decides

  abbrev parts : OrderParts
  parts = record { keys = keys; head = head; text = text }

  module _ (suited : InTurn (IsKeysAnswer s) 1 keys (Ok tt)) where
    suited_head : IsHeadAnswer s order (Ok parts)
    suited_head = GoesOn parts is (GoesOn tt suited refl)

    pub sign_answer : (fault : FormFault) → IsBytesAnswer (length head + 1) text (Err fault)
        → IsOrderAnswer s order (Err fault)
    sign_answer fault found = HasFault fault (GoesOn parts suited_head (HasFault fault found refl)) refl

    module _ (allowed : IsBytesAnswer (length head + 1) text (Ok tt)) where
      suited_text : IsReadAnswer s order (Ok parts)
      suited_text = GoesOn parts suited_head (GoesOn tt allowed refl)

      pub made_answer : (answer : Result (List ℕ) FormFault) → IsMadeAnswer s keys (text_letters s text) answer
          → IsOrderAnswer s order answer
      made_answer answer made = GoesOn parts suited_text made

      pub is_made : (answer : Result (List ℕ) FormFault) → text_letters s text ≢ []
          → parts_needed s (length (text_letters s text)) ≡ length keys → IsOrderAnswer s order answer
          → (made : List ℕ) × (answer ≡ Ok made)
      is_made (Ok made) some enough found = (made, refl)
      is_made (Err fault) some enough (HasFault other found d) = absurd
          (let clash = HasOneAnswer-read s order (Ok parts) (Err other) suited_text found in cc)
      is_made (Err fault) some enough (GoesOn others found d) =
          let same : parts ≡ others =
          let clash = HasOneAnswer-read s order (Ok parts) (Ok others) suited_text found in cc in
          absurd (no_fault some enough (subst (λ p. IsMadeAnswer s p.keys (text_letters s p.text) (Err fault))
          (sym same) d)) where
            no_fault : text_letters s text ≢ [] → parts_needed s (length (text_letters s text)) ≡ length keys
                → ¬ (IsMadeAnswer s keys (text_letters s text) (Err fault))
            no_fault some enough (HasFault f (none, e) d) = none tt some
            no_fault some enough (GoesOn done found (HasFault f (none, e) d)) = none tt enough
            no_fault some enough (GoesOn done found (GoesOn also needed d)) = d

-- -------- the bytes of a text

-- what a reader says of a text's bytes, if `place` is the place of the first wrong byte
abbrev pub AreSignsTested : ℕ → List ℕ → Option ℕ → Type 0
AreSignsTested position text None = IsBytesAnswer position text (Ok tt)
AreSignsTested position text (Some place) = IsBytesAnswer position text (Err (BadByte (position + place)))

abbrev is_wrong : ℕ → Bool
is_wrong byte = not (is_text_byte byte)

-- the place is counted from the `seen` bytes before the text
abbrev AreSignsTestedAfter : ℕ → ℕ → List ℕ → Option ℕ → Type 0
AreSignsTestedAfter position seen text None = IsBytesAnswer (position + seen) text (Ok tt)
AreSignsTestedAfter position seen text (Some place) =
    IsBytesAnswer (position + seen) text (Err (BadByte (position + place)))

module _ (position seen byte : ℕ) (text : List ℕ) where
  next_sign : (answer : Result (Unit {0}) FormFault) → IsTrue (is_text_byte byte)
      → IsBytesAnswer (position + (seen + 1)) text answer → IsBytesAnswer (position + seen) (byte ∷ text) answer
  next_sign answer allowed rest =
      let place : position + (seen + 1) ≡ position + seen + 1 = omega arith in
      GoesOn tt allowed (rw place at rest)

  next_place : (found : Option ℕ) → IsTrue (is_text_byte byte) → AreSignsTestedAfter position (seen + 1) text found
      → AreSignsTestedAfter position seen (byte ∷ text) found
  next_place None allowed rest = next_sign (Ok tt) allowed rest
  next_place (Some place) allowed rest = next_sign (Err (BadByte (position + place))) allowed rest

  sign_cases : (wrong : Bool) → is_text_byte byte ≡ not wrong
      → AreSignsTestedAfter position (seen + 1) text (position_from is_wrong (seen + 1) text)
      → AreSignsTestedAfter position seen (byte ∷ text)
      (cond wrong (Some seen) (position_from is_wrong (seen + 1) text))
  sign_cases true bad rest = HasFault _ ((λ _ good. false≢true (sym bad ∙ good)), refl) refl
  sign_cases false good rest = next_place (position_from is_wrong (seen + 1) text) good rest

not_not : (b : Bool) → b ≡ not (not b)
not_not true = refl
not_not false = refl

signs_after : (position seen : ℕ) (text : List ℕ)
    → AreSignsTestedAfter position seen text (position_from is_wrong seen text)
signs_after position seen [] = refl
signs_after position seen (byte ∷ text) = sign_cases position seen byte text (is_wrong byte)
    (not_not (is_text_byte byte))
    (signs_after position (seen + 1) text)

counted_from : (position : ℕ) (text : List ℕ) (found : Option ℕ) → AreSignsTestedAfter position 0 text found
    → AreSignsTested position text found
counted_from position text None tested = let same : position + 0 ≡ position = omega arith in rw same at tested
counted_from position text (Some place) tested = let same : position + 0 ≡ position = omega arith in rw same at tested

pub signs_agree : (position : ℕ) (text : List ℕ) → AreSignsTested position text (wrong_sign text)
signs_agree position text = subst (AreSignsTested position text) (sym (position_from-zero is_wrong text))
    (counted_from position text (position_from is_wrong 0 text) (signs_after position 0 text))

-- -------- the answers, step by step

by_day : {s : Day} {order head text : List ℕ} {keys : List Keys} {answer : Result (List ℕ) FormFault}
    → IsOrder s order keys head text → (fault : FormFault) → InTurn (IsKeysAnswer s) 1 keys (Err fault)
    → answer ≡ Err fault → IsDaysFault fault → IsRefusedByDay s order answer
by_day {head = head} {text} {keys} is fault unsuited answered days = record {
  keys = keys;
  head = head;
  text = text;
  fault = fault;
  is_order = is;
  unsuited = unsuited;
  of_the_day = days;
  answered = answered;
}

-- what `look` says agrees with what `send` answers
abbrev pub Agrees : Day → List ℕ → Result (List ℕ) FormFault → Result ℕ MessageFault → Type 0
Agrees s order answer (Ok start) = ((made : List ℕ) × (answer ≡ Ok made)) ⊎ IsRefusedByDay s order answer
Agrees s order answer (Err found) = (answer ≡ Err found.fault) ⊎ IsRefusedByDay s order answer

refused : (s : Day) (order : List ℕ) (answer : Result (List ℕ) FormFault) → IsRefusedByDay s order answer
    → (seen : Result ℕ MessageFault) → Agrees s order answer seen
refused s order answer by (Ok start) = inr by
refused s order answer by (Err found) = inr by

module _ (s : Day) (form : KeyLine) (order : List ℕ) (answer : Result (List ℕ) FormFault)
    (same : HasKeyLineForm s form) (told : IsOrderAnswer s order answer) where
  -- a fault of `send` is its only answer
  only : (fault : FormFault) → IsOrderAnswer s order (Err fault) → answer ≡ Err fault
  only fault other = orders_have_one_answer s order answer (Err fault) told other

  module _ (start : ℕ) (head : HasHeadTo s order start) where
    front_size : length (take start order) ≡ start
    front_size = length-take-le start order head.inside

    module _ (suited : InTurn (IsKeysAnswer s) 1 head.keys (Ok tt)) where
      parts_cases : (none enough : Bool) (why : Reason) → (letter_count order form start == 0) ≡ none
          → (looks.parts_needed order form start == keys_given order start) ≡ enough
          → IsBytesAnswer (length (take start order) + 1) (drop start order) (Ok tt)
          → Agrees s order answer
          ((cond none (Err (record { index = start; fault = EmptyText; reason = reasons.NoLetter }))
          (cond enough (Ok tt) (Err (record {
            index = start;
            fault = PartKeys (looks.parts_needed order form start) (keys_given order start);
            reason = why;
          })))) >> Ok start)
      parts_cases true enough why empty needed allowed =
          let counted = counts_agree s form same (drop start order) in
          let none : letter_count order form start ≡ 0 = grind (arith, nat_tests) in
          let nil : text_letters s (drop start order) ≡ [] = nil_from_length _ (counted ∙ none) in
          inl (only EmptyText (made_answer head.is_order suited allowed (Err EmptyText)
          (HasFault EmptyText ((λ _ some. some nil), refl) refl)))
      parts_cases false true why empty needed allowed =
          let counted = counts_agree s form same (drop start order) in
          let count : letter_count order form start ≢ 0 = grind (arith, nat_tests) in
          let some : text_letters s (drop start order) ≢ [] = λ nil. count (sym counted ∙ ap length nil) in
          let sized = sizes_agree s form same in
          let enough : looks.parts_needed order form start ≡ keys_given order start = grind (arith, nat_tests) in
          let parts : parts_needed s (length (text_letters s (drop start order))) ≡ length head.keys =
          cc (counted, sized, enough, head.counted) in
          inl (is_made head.is_order suited allowed answer some parts told)
      parts_cases false false why empty needed allowed =
          let counted = counts_agree s form same (drop start order) in
          let count : letter_count order form start ≢ 0 = grind (arith, nat_tests) in
          let some : text_letters s (drop start order) ≢ [] = λ nil. count (sym counted ∙ ap length nil) in
          let sized = sizes_agree s form same in
          let parts : parts_needed s (length (text_letters s (drop start order)))
          ≡ looks.parts_needed order form start =
          cc (counted, sized) in
          let fault : FormFault = PartKeys (looks.parts_needed order form start) (keys_given order start) in
          let differ : looks.parts_needed order form start ≢ keys_given order start = grind (arith, nat_tests) in
          inl (only fault (made_answer head.is_order suited allowed (Err fault)
          (GoesOn tt some (HasFault fault (
            (λ _ enough. differ (sym parts ∙ enough ∙ sym head.counted)),
            cc (parts, head.counted),
          ) refl))))

      parts_stage : IsBytesAnswer (length (take start order) + 1) (drop start order) (Ok tt)
          → Agrees s order answer (parts_answer order form start >> Ok start)
      unfolding parts_answer
      parts_stage allowed = parts_cases _ _ _ refl refl allowed

      signs_stage : (found : Option ℕ) → AreSignsTested (length (take start order) + 1) (drop start order) found
          → Agrees s order answer
          (option_map_or
          (λ place. Err
          (record { index = start + place; fault = BadByte (start + place + 1); reason = reasons.TextSign })) found
          (Ok tt)
          >> (parts_answer order form start >> Ok start))
      signs_stage None allowed = parts_stage allowed
      signs_stage (Some place) wrong =
          let position : length (take start order) + 1 + place ≡ start + place + 1 = omega (arith, front_size) in
          inl (only (BadByte (start + place + 1))
          (sign_answer head.is_order suited (BadByte (start + place + 1)) (rw position at wrong)))

    wheels_stage : (wheels : Result (Unit {0}) MessageFault) (next : Result ℕ MessageFault)
        → AreWheelsTested s head.keys wheels
        → (InTurn (IsKeysAnswer s) 1 head.keys (Ok tt) → Agrees s order answer next)
        → Agrees s order answer (wheels >> next)
    wheels_stage (Ok done) next tested on = elim (keys_decide head.is_order answer told) [
      | inl suited ↦ on suited
      | inr unsuited ↦ refused s order answer (by_day head.is_order unsuited.0 unsuited.1 unsuited.2
          (tested unsuited.0 unsuited.1)) next
    ]
    wheels_stage (Err found) next tested on = elim (keys_decide head.is_order answer told) [
      | inl suited ↦ absurd (tested.unsuited suited)
      | inr unsuited ↦ elim (tested.faults unsuited.0 unsuited.1) [
        | inl off ↦ inl (cc (unsuited.2, off, tested.is))
        | inr days ↦ inr (by_day head.is_order unsuited.0 unsuited.1 unsuited.2 days)
      ]
    ]

    rest_stage : Agrees s order answer
        (wheels_answer order form start >> (signs_answer order start >> (parts_answer order form start >> Ok start)))
    rest_stage =
        wheels_stage (wheels_answer order form start) _
        (wheels_agree s form order start head.keys head.inside same head.is_order)
        (λ suited. signs_stage suited (wrong_sign (drop start order)) (signs_agree _ (drop start order)))

  head_stage : (read : Result ℕ MessageFault) → text_start order form ≡ read
      → Agrees s order answer (read >>= (λ start. wheels_answer order form start
      >> (signs_answer order start >> (parts_answer order form start >> Ok start))))
  head_stage (Ok start) is = rest_stage start (head_ends_agree s form order start same is)
  head_stage (Err found) is =
      let (fault, named) = head_faults_agree s form order found same is in
      inl (only found.fault (HasFault found.fault
      (HasFault found.fault (HasFault found.fault (_, fault, named) refl) refl)
      refl))

  pub order_agrees : Agrees s order answer (order_answer order form)
  unfolding order_answer
  order_agrees = head_stage (text_start order form) refl

pub order_faults_agree : OrderFaultsAreThoseOfSend
order_faults_agree s form order found answer same is told =
    subst (Agrees s order answer) is (order_agrees s form order answer same told)

pub faultless_orders_agree : FaultlessOrdersAreSent
faultless_orders_agree s form order start answer same is told =
    subst (Agrees s order answer) is (order_agrees s form order answer same told)

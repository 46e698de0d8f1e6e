-- What `look` says of a form, and what `receive` says of it.
use Rattle.std.proofs.Common.{◌≡◌, ◌≢◌, ◌∙◌, ℕ, zero, suc, ◌+◌, ◌-◌, ◌<◌, ◌≤◌, ◌==◌, ◌⊎◌, Bool, true, false}
use Rattle.std.proofs.Common.{List, [], ◌∷◌, ◌++◌, Option, Some, None, Result, Ok, Err, ap, arith, cond, drop, inl}
use Rattle.std.proofs.Common.{inr, length, refl, subst, Contains, IfOk, sym, option_map}
use Rattle.std.proofs.Common.{option_to_list}
use Rattle.std.proofs.lemmas.List.Elements.{Contains-append_right}
use Rattle.std.proofs.lemmas.Bool.{cases_Bool, eq-eqb, eqb-true, false≢true}
use Rattle.std.proofs.lemmas.List.{length-append, length-drop, length-take-le, Sums.sum_by-cons}
use Rattle.std.specs.List.{count_by, slice_range}
use Rattle.std.specs.Option.{option_map_or}
use Rattle.std.specs.Result.{result_map_both}
use Rattle.kd_tables.specs.Text.{is_capital}
use Rattle.kd_state.specs.AnswerRules.{Demands, GoesOn, HasFault, HasOneAnswer, ThenNext, Yields}
use Rattle.kd_state.specs.SheetDay.{Day}
use Rattle.kd_form.specs.declared.fault.FormFault.{FormFault}
use Rattle.kd_form.specs.declared.fault.FormFault.TheVariants.{BadByte, BadHeading, CountWrong, PartOrder}
use Rattle.kd_form.specs.declared.heading.{Heading.Heading, Indicator.Indicator}
use Rattle.kd_form.specs.BodyCipher.{IsLettersAnswer}
use Rattle.kd_form.specs.FormParts.{parts_of}
use Rattle.kd_form.specs.FormText.{IsAnswerAt, ReadsPartsTo, first_part_start, next_part_start}
use Rattle.kd_form.specs.PartReading.{HasDueNumbers, HasHeading, IsBodyAnswer, IsContentAnswer, IsPartAnswer}
use Rattle.kd_form.specs.PartReading.{PartContent, PartStart, ReadPart}
use Rattle.kd_form.specs.Sending.{IsBytesAnswer, letter_of_byte, letters_from}
use Rattle.kd_form.proofs.Headings.{as_parts}
use Rattle.kd_form.proofs.Lines.{letters_first}
use Rattle.kd_form.proofs.OneOrder.{one_internal_key}
use Rattle.kd_form.proofs.OneText.{HasOneAnswer-content, start_of}
use Rattle.kd_form.proofs.Rules.{one_answers}
use Rattle.kd_sheet.specs.Document.{◌>>=◌, ◌>>◌, demand}
use Rattle.kd_look.specs.Form.{body_end, body_signs, due_heading, first_or, form_answer, form_from, has_due_numbers}
use Rattle.kd_look.specs.Form.{heading_fault, part_at}
use Rattle.kd_look.specs.FormHeading.{heading_at, heading_keys, keys_or}
use Rattle.kd_look.specs.FormShown.{IsShownPartAnswer}
use Rattle.kd_look.specs.Laws.{FaultlessFormsAreReceived, FormFaultsAreThoseOfReceive, HasKeyLineForm, IsDayOfForm}
use Rattle.kd_look.specs.Laws.{IsNextPart, IsRefusedForLetters, count_end}
use Rattle.kd_look.specs.Signs.{wrong_sign}
use Rattle.kd_look.specs.declared.message.fault.MessageFault.{MessageFault}
use Rattle.kd_look.specs.declared.message.fault.Reason.TheVariants as reasons
use Rattle.kd_look.specs.declared.message.form.FormPart.{FormPart}
use Rattle.kd_look.specs.declared.message.form_heading.FormHeading.{FormHeading}
use Rattle.kd_look.specs.declared.message.signs.WrongByte.{WrongByte}
use Rattle.kd_look.proofs.Form.{after_part, answer_after, end_answer}
use Rattle.kd_look.proofs.HeadingsRead.{HeadingsAgree, end_read, heading_is, heading_read}
use Rattle.kd_look.proofs.HeadingsThere.{heading_there}
use Rattle.kd_look.proofs.Marks.{in_text}
use Rattle.kd_look.proofs.Orders.{AreSignsTested, signs_agree}
use Rattle.kd_look.proofs.PartsCut.{both_true, IsPartCut, IsAfterPart, Last, More, body_end_is, body_start, cut_of}
use Rattle.kd_look.proofs.PartsCut.{first_end, to_part, to_text}

-- -------- a part has one answer

HasOneAnswer-letters : (s : Day) (part : ℕ) (i : Option Indicator) (letters : List ℕ)
    → HasOneAnswer (IsLettersAnswer s part i letters)
HasOneAnswer-letters s part (Some i) letters = search one_answers depth 9
HasOneAnswer-letters s part None letters = search (one_answers, one_internal_key) depth 12

HasOneAnswer-part : (s : Day) (p : PartStart) (part : List ℕ) → HasOneAnswer (IsPartAnswer s p part)
HasOneAnswer-part s p part = search (one_answers, HasOneAnswer-content, HasOneAnswer-letters)

-- a fault that shows without deciphering is the part's first fault
shown_refused : (s : Day) (p : PartStart) (part : List ℕ) (fault : FormFault)
    → IsShownPartAnswer s p part (Err fault) → IsPartAnswer s p part (Err fault)
shown_refused s p part fault (HasFault other found is) =
    let same : fault ≡ other = cc in HasFault other found (ap Err same)
shown_refused s p part fault (GoesOn content found (HasFault other wrong is)) =
    let same : fault ≡ other = cc in GoesOn content found (HasFault other (HasFault other wrong refl) (ap Err same))
shown_refused s p part fault (GoesOn content found (GoesOn done counted is)) = absurd (cc)

-- -------- the letters of a body

capital_counts : (byte : ℕ) → length (option_to_list (letter_of_byte None byte)) ≡ cond (is_capital byte) 1 0
capital_counts byte = grind (arith, cases_Bool)

pub capitals_agree : (text : List ℕ) → length (letters_from None text) ≡ count_by is_capital text
capitals_agree [] = refl
capitals_agree (byte ∷ text) =
    let one = capital_counts byte in
    let rest = capitals_agree text in
    ap length (letters_first None byte text)
    ∙ length-append (option_to_list (letter_of_byte None byte)) (letters_from None text) ∙ omega (arith, one, rest)
    ∙ sym (sum_by-cons (λ b. cond (is_capital b) 1 0) byte text)

-- -------- one part

-- the heading has the right numbers for `look` exactly if it has them for `receive`
numbers_agree : (first : Option FormHeading) (number : ℕ) (heading : FormHeading) (h : Heading) → h.part ≡ heading.part
    → h.parts ≡ heading.parts
    → (has_due_numbers first number heading ≡ true
    → HasDueNumbers number (option_map (λ heading. heading.parts) first) h)
    × (HasDueNumbers number (option_map (λ heading. heading.parts) first) h
    → has_due_numbers first number heading ≡ true)
numbers_agree None number heading h part parts = (
  λ due. record { numbered = part ∙ eqb-true heading.part number due; as_expected = tt },
  λ due. eq-eqb heading.part number (sym part ∙ due.numbered),
)
numbers_agree (Some f) number heading h part parts = (
  λ due.
      let tests = both_true (heading.part == number) (heading.parts == f.parts) due in
      record {
        numbered = part ∙ eqb-true heading.part number tests.0;
        as_expected = sym (parts ∙ eqb-true heading.parts f.parts tests.1);
      },
  λ due.
      let one = eq-eqb heading.part number (sym part ∙ due.numbered) in
      let two = eq-eqb heading.parts f.parts (sym parts ∙ sym due.as_expected) in
      rw (one, two) refl,
)

-- the fault is one of the letters of the part `part`
pub record IsLettersFault (s : Day) (part : List ℕ) (fault : FormFault) : Type 0 where
  pub heading : Heading
  pub body : List ℕ
  pub headed : HasHeading s part heading body
  pub found : IsLettersAnswer s heading.part heading.indicator (letters_from None body) (Err fault)

-- the answer for a part without another fault: its letters, or a fault of the letters
abbrev pub IsLettersTold : Day → List ℕ → FormHeading → Result ReadPart FormFault → Type 0
IsLettersTold s part heading (Ok read) = read.parts ≡ heading.parts
IsLettersTold s part heading (Err fault) = IsLettersFault s part fault

module _ (s : Day) (text : List ℕ) (first : Option FormHeading) (number index : ℕ) (inside : index ≤ length text)
    (cut : IsPartCut text index (first_end text index)) where
  abbrev pub place : PartStart
  place = start_of number (option_map (λ heading. heading.parts) first) index

  -- A part without a fault for `look`.
  pub record IsPartFaultless (read : FormPart) : Type 0 where
    pub ends : read.end ≡ first_end text index
    pub keyed : HasKeyLineForm s read.heading.keys
    pub due : has_due_numbers first number read.heading ≡ true
    pub few : read.heading.part ≤ 99
    pub shown : IsShownPartAnswer s place cut.part (Ok read.heading.parts)
    pub told : (answer : Result ReadPart FormFault) → IsPartAnswer s place cut.part answer
        → IsLettersTold s cut.part read.heading answer

  abbrev pub IsPartSeen : Result FormPart MessageFault → Type 0
  IsPartSeen (Ok read) = IsPartFaultless read
  IsPartSeen (Err found) = IsShownPartAnswer s place cut.part (Err found.fault)

  module _ (heading : FormHeading) (h : Heading)
      (agree : HeadingsAgree s (drop index text) heading h (drop heading.body text))
      (keyed : HasKeyLineForm s heading.keys) (few : heading.part ≤ 99) (more : index < heading.body)
      (ends : body_end text heading.body ≡ first_end text index)
      (before : heading.body ≤ first_end text index) (whole : first_end text index ≤ length text) where
    abbrev body : List ℕ
    body = slice_range text heading.body (first_end text index)

    has : HasHeading s cut.part h body
    has = to_part s text index h (first_end text index) heading.body cut before agree.has

    body_size : length body ≡ first_end text index - heading.body
    body_size =
        length-take-le (first_end text index - heading.body) (drop heading.body text)
        (omega (arith, whole, length-drop heading.body text))

    position : index + (length cut.part - length body) + 1 ≡ heading.body + 1
    position = omega (arith, body_size, cut.size, before, more)

    module _ (due : HasDueNumbers number (option_map (λ heading. heading.parts) first) h) where
      abbrev content : PartContent
      content = record { heading = h; body = body }

      sign_refused : (fault : FormFault) → IsBytesAnswer (heading.body + 1) body (Err fault)
          → IsShownPartAnswer s place cut.part (Err fault)
      sign_refused fault wrong =
          HasFault fault (GoesOn content has (GoesOn tt due (HasFault fault (rw position wrong) refl))) refl

      module _ (allowed : IsBytesAnswer (heading.body + 1) body (Ok tt)) where
        content_right : IsContentAnswer s place cut.part (Ok content)
        content_right = GoesOn content has (GoesOn tt due (GoesOn tt (rw position allowed) refl))

        count_refused : length (letters_from None body) ≢ h.letters
            → IsShownPartAnswer s place cut.part (Err (CountWrong number))
        count_refused other =
            GoesOn content content_right (HasFault (CountWrong number) ((λ _ same. other same), refl) refl)

        body_told : length (letters_from None body) ≡ h.letters → (answer : Result ReadPart FormFault)
            → ThenNext (IsBodyAnswer s number h (letters_from None body))
            (λ letters. Yields (record { parts = h.parts; letters = letters })) answer
            → IsLettersTold s cut.part heading answer
        body_told counted answer (HasFault fault (HasFault other (none, e) d) is) = absurd (none tt counted)
        body_told counted answer (HasFault fault (GoesOn done right found) is) =
            subst (IsLettersTold s cut.part heading) (sym is) (record {
              heading = h;
              body = body;
              headed = has;
              found = subst (λ n. IsLettersAnswer s n h.indicator (letters_from None body) (Err fault))
                  (sym due.numbered)
                  found;
            })
        body_told counted answer (GoesOn letters found is) = subst (IsLettersTold s cut.part heading)
            (sym is) agree.parts

        letters_told : length (letters_from None body) ≡ h.letters → (answer : Result ReadPart FormFault)
            → IsPartAnswer s place cut.part answer → IsLettersTold s cut.part heading answer
        letters_told counted answer (HasFault fault found d) =
            let clash = HasOneAnswer-content s place cut.part (Ok content) (Err fault) content_right found in
            absurd (cc)
        letters_told counted answer (GoesOn other found next) =
            let clash = HasOneAnswer-content s place cut.part (Ok content) (Ok other) content_right found in
            let same : content ≡ other = cc in
            body_told counted answer (subst (λ (c : PartContent).
            ThenNext (IsBodyAnswer s number c.heading (letters_from None c.body))
            (λ letters. Yields (record { parts = c.heading.parts; letters = letters })) answer) (sym same) next)

        -- at the end, `look` compares the number of letters
        count_stage : (same : Bool) → (count_by is_capital body == heading.letters) ≡ same
            → has_due_numbers first number heading ≡ true
            → IsPartSeen (demand same
            (record { index = index; fault = CountWrong number; reason = reasons.BodyCount })
            >> Ok (record { heading = heading; end = first_end text index }))
        count_stage true same right =
            let counted : length (letters_from None body) ≡ h.letters =
            capitals_agree body ∙ eqb-true (count_by is_capital body) heading.letters same ∙ sym agree.letters in
            record {
              ends = refl;
              keyed = keyed;
              due = right;
              few = few;
              shown = GoesOn content content_right (GoesOn tt counted (ap Ok (sym agree.parts)));
              told = letters_told counted;
            }
        count_stage false same right = count_refused (λ counted.
            let equal = eq-eqb (count_by is_capital body) heading.letters
            (sym (capitals_agree body) ∙ counted ∙ agree.letters) in false≢true (sym same ∙ equal))

      signs_stage : (found : Option ℕ) → AreSignsTested (heading.body + 1) body found
          → has_due_numbers first number heading ≡ true
          → IsPartSeen (option_map_or (λ place. Err (record {
            index = heading.body + place;
            fault = BadByte (heading.body + place + 1);
            reason = reasons.BodySign;
          })) found (Ok tt)
          >> (demand (count_by is_capital body == heading.letters)
          (record { index = index; fault = CountWrong number; reason = reasons.BodyCount })
          >> Ok (record { heading = heading; end = first_end text index })))
      signs_stage None allowed right = count_stage allowed (count_by is_capital body == heading.letters) refl right
      signs_stage (Some sign) wrong right =
          let same : heading.body + 1 + sign ≡ heading.body + sign + 1 = omega arith in
          sign_refused (BadByte (heading.body + sign + 1)) (rw same at wrong)

    -- what comes after the heading
    abbrev after_heading : ℕ → Result FormPart MessageFault
    after_heading end =
        body_signs text heading.body end
        >> (demand (count_by is_capital (slice_range text heading.body end) == heading.letters)
        (record { index = index; fault = CountWrong number; reason = reasons.BodyCount })
        >> Ok (record { heading = heading; end = end }))

    numbers_stage : (due : Bool) → has_due_numbers first number heading ≡ due
        → IsPartSeen (demand due (record { index = index; fault = PartOrder; reason = reasons.PartsMixed })
        >> after_heading (body_end text heading.body))
    numbers_stage true right =
        let numbers = (numbers_agree first number heading h agree.part agree.parts).0 right in
        subst (λ end. IsPartSeen (after_heading end)) (sym ends)
        (signs_stage numbers (wrong_sign body) (signs_agree (heading.body + 1) body) right)
    numbers_stage false wrong =
        GoesOn-fault (λ due. false≢true (sym wrong ∙
        (numbers_agree first number heading h agree.part agree.parts).1 due))
      where
        GoesOn-fault : ¬ (HasDueNumbers number (option_map (λ heading. heading.parts) first) h)
            → IsShownPartAnswer s place cut.part (Err PartOrder)
        GoesOn-fault undue =
            HasFault PartOrder
            (GoesOn (record { heading = h; body = body }) has
            (HasFault PartOrder ((λ _ due. undue due), refl) refl)) refl

-- a test before one step is a test before all that follows
test_first : {A B F : Type 0} (P : Result B F → Type 0) (test : Bool) (fault : F) (x : A) (next : A → Result B F)
    → P (demand test fault >> next x) → P ((demand test fault >> Ok x) >>= next)
test_first P true fault x next holds = holds
test_first P false fault x next holds = holds

-- the day's keys have the form that `look` takes the heading at `index` to have
abbrev pub IsKeyed : Day → List ℕ → Option FormHeading → ℕ → Type 0
IsKeyed s text None index = (end : ℕ) → count_end text index ≡ Ok end → HasKeyLineForm s (heading_keys text end)
IsKeyed s text (Some first) index = HasKeyLineForm s first.keys

pub keys_known : (s : Day) (text : List ℕ) (first : Option FormHeading) (index : ℕ) → IsKeyed s text first index
    → (end : ℕ) → count_end text index ≡ Ok end
    → HasKeyLineForm s (keys_or (heading_keys text end) (option_map (λ heading. heading.keys) first))
keys_known s text None index keyed end is = keyed end is
keys_known s text (Some first) index keyed end is = keyed

module _ (s : Day) (text : List ℕ) (first : Option FormHeading) (number index : ℕ) (inside : index ≤ length text)
    (cut : IsPartCut text index (first_end text index)) (keyed : IsKeyed s text first index) where
  heading_stage : (read : Result FormHeading WrongByte)
      → heading_at text (option_map (λ heading. heading.keys) first) index ≡ read
      → IsPartSeen s text first number index inside cut
      ((result_map_both (λ heading. heading) (heading_fault number) read
      >>= (λ heading. demand (has_due_numbers first number heading)
      (record { index = index; fault = PartOrder; reason = reasons.PartsMixed }) >> Ok heading))
      >>= (λ heading. Ok (body_end text heading.body) >>= (λ end. body_signs text heading.body end
      >> (demand (count_by is_capital (slice_range text heading.body end) == heading.letters)
      (record { index = index; fault = CountWrong number; reason = reasons.BodyCount })
      >> Ok (record { heading = heading; end = end })))))
  heading_stage (Err wrong) is =
      HasFault (BadHeading number) (HasFault (BadHeading number) (
        (λ (content : PartContent) has.
            let (heading, there) = heading_there s text
            (option_map (λ heading. heading.keys) first) index content.heading
            (content.body ++ drop (first_end text index) text) inside
            (to_text s text index content.heading (first_end text index) cut content.body has)
            (keys_known s text first index keyed) in
            cc (is, there)),
        refl,
      ) refl) refl
  heading_stage (Ok heading) is =
      let read = heading_read text (option_map (λ heading. heading.keys) first) index heading is in
      let same : HasKeyLineForm s heading.keys = subst (HasKeyLineForm s) (sym read.keyed)
      (keys_known s text first index keyed read.count read.counted_to) in
      let (h, agree) = heading_is s text (option_map (λ heading. heading.keys) first) index heading same read in
      let within = (end_read text read.last heading.body read.ended).1 in
      let start = body_start s text index heading.body h inside within agree.has.first in
      let (ends, before) = body_end_is text index heading.body start in
      let whole : first_end text index ≤ length text =
      omega (arith, cut.size, in_text text cut.part (drop (first_end text index) text) index inside cut.joined) in
      test_first (IsPartSeen s text first number index inside cut) (has_due_numbers first number heading) _ heading _
      (numbers_stage s text first number index inside cut heading h agree same
      (omega (arith, read.in_order, read.few)) start.more ends (omega (arith, before, ends)) whole
      (has_due_numbers first number heading) refl)

  pub part_seen : IsPartSeen s text first number index inside cut (part_at text first number index)
  unfolding part_at due_heading
  part_seen = heading_stage (heading_at text (option_map (λ heading. heading.keys) first) index) refl

-- -------- all parts

-- The answer is the fault of the letters of one of the parts of `all`. The parts before it, of which the first starts
-- at `p`, are read.
record IsLettersRefusal (s : Day) (all : List (List ℕ)) (p : PartStart) (parts : List (List ℕ))
    (answer : Result (Unit {0}) FormFault) : Type 0 where
  part : List ℕ
  fault : FormFault
  is_part : Contains all part
  letters : List ℕ
  before : ReadsPartsTo s (IsNextPart part) p parts letters
  by : IsLettersFault s part fault
  answered : answer ≡ Err fault

-- what `look` says of the parts agrees with what `receive` answers
abbrev IsTold : Day → List (List ℕ) → PartStart → List (List ℕ) → Result (Unit {0}) FormFault
    → Result FormHeading MessageFault → Type 0
IsTold s all p parts answer (Ok first) = (answer ≡ Ok tt) ⊎ IsLettersRefusal s all p parts answer
IsTold s all p parts answer (Err found) = (answer ≡ Err found.fault) ⊎ IsLettersRefusal s all p parts answer

refused_told : (s : Day) (all : List (List ℕ)) (p : PartStart) (parts : List (List ℕ))
    (answer : Result (Unit {0}) FormFault) (seen : Result FormHeading MessageFault)
    → IsLettersRefusal s all p parts answer → IsTold s all p parts answer seen
refused_told s all p parts answer (Ok first) by = inr by
refused_told s all p parts answer (Err found) by = inr by

module _ (s : Day) (all : List (List ℕ)) (p : PartStart) (part : List ℕ) (parts : List (List ℕ))
    (answer : Result (Unit {0}) FormFault) (read : ReadPart) (is : IsPartAnswer s p part (Ok read)) where
  refused_later : IsLettersRefusal s all (next_part_start p read.parts part) parts answer
      → IsLettersRefusal s all p (part ∷ parts) answer
  refused_later by = record {
    part = by.part;
    fault = by.fault;
    is_part = by.is_part;
    letters = read.letters ++ by.letters;
    before = inr (read, by.letters, is, by.before, refl);
    by = by.by;
    answered = by.answered;
  }

  -- what is told of the later parts is told from a part on that is read
  told_later : (seen : Result FormHeading MessageFault)
      → IsTold s all (next_part_start p read.parts part) parts answer seen → IsTold s all p (part ∷ parts) answer seen
  told_later (Ok first) (inl same) = inl same
  told_later (Ok first) (inr by) = inr (refused_later by)
  told_later (Err found) (inl same) = inl same
  told_later (Err found) (inr by) = inr (refused_later by)

-- after the last part
count_told : (s : Day) (all : List (List ℕ)) (p : PartStart) (parts : List (List ℕ))
    (answer : Result (Unit {0}) FormFault) (number count length : ℕ) (first : FormHeading) (right : Bool)
    → (count == number) ≡ right → Demands (number + 1 ≡ count + 1) PartOrder answer
    → IsTold s all p parts answer (end_answer length first right)
count_told s all p parts (Ok done) number count length first true right is = inl refl
count_told s all p parts (Err fault) number count length first true right (none, is) =
    let same = eqb-true count number right in absurd (none tt (ap (λ n. n + 1) (sym same)))
count_told s all p parts (Ok done) number count length first false wrong is =
    let same : count ≡ number = omega (arith, is) in absurd (false≢true (sym wrong ∙ eq-eqb count number same))
count_told s all p parts (Err fault) number count length first false wrong (none, is) = inl (ap Err is)

pub parts_known : (first : Option FormHeading) (number : ℕ) (heading : FormHeading)
    → has_due_numbers first number heading ≡ true
    → (heading.part ≡ number) × (heading.parts ≡ (first_or heading first).parts)
parts_known None number heading due = (eqb-true heading.part number due, refl)
parts_known (Some f) number heading due =
    let tests = both_true (heading.part == number) (heading.parts == f.parts) due in
    (eqb-true heading.part number tests.0, eqb-true heading.parts f.parts tests.1)

pub keyed_on : (s : Day) (text : List ℕ) (first : Option FormHeading) (index : ℕ) (heading : FormHeading)
    → IsKeyed s text first index → HasKeyLineForm s heading.keys → HasKeyLineForm s (first_or heading first).keys
keyed_on s text None index heading keyed own = own
keyed_on s text (Some first) index heading keyed own = keyed

module _ (s : Day) (text : List ℕ) (all : List (List ℕ)) (answer : Result (Unit {0}) FormFault) where
  abbrev ReadsFrom : Option FormHeading → ℕ → ℕ → List ℕ → Type 0
  ReadsFrom first number index letters =
      ReadsPartsTo s (IsAnswerAt s answer) (start_of number (option_map (λ heading. heading.parts) first) index)
      (parts_of (drop index text)) letters

  module _ (left : ℕ) (first : Option FormHeading) (number index : ℕ) (letters : List ℕ) (inside : index ≤ length text)
      (cut : IsPartCut text index (first_end text index)) (keyed : IsKeyed s text first index)
      (known : (part : List ℕ) → Contains (cut.part ∷ cut.others) part → Contains all part)
      (later : (heading : FormHeading) (end : ℕ) (more : List ℕ) → end ≤ length text → number + 1 ≤ 100
      → HasKeyLineForm s heading.keys → cut.others ≡ parts_of (drop end text)
      → ReadsFrom (Some heading) (number + 1) end more
      → IsTold s all (start_of (number + 1) (Some heading.parts) end) (parts_of (drop end text)) answer
      (form_from text left (Some heading) (number + 1) end)) where
    abbrev start : PartStart
    start = start_of number (option_map (λ heading. heading.parts) first) index

    after_told : (part : FormPart) → IsPartFaultless s text first number index inside cut part → (read : ReadPart)
        → read.parts ≡ part.heading.parts → (more : List ℕ)
        → ReadsPartsTo s (IsAnswerAt s answer) (next_part_start start read.parts cut.part) cut.others more
        → (last : Bool) → (part.end == length text) ≡ last → IsAfterPart text cut.part (first_end text index) cut.others
        → IsTold s all (next_part_start start read.parts cut.part) cut.others answer
        (answer_after text left first number part last)
    after_told part faultless read same more rest true ended (Last at none) =
        let (held, nil) =
        subst (λ others. ReadsPartsTo s (IsAnswerAt s answer)
        (next_part_start start read.parts cut.part) others more) none
        rest in
        let (count, expected, right) = held in
        let counts : count ≡ part.heading.parts = cc (expected, same) in
        count_told s all (next_part_start start read.parts cut.part) cut.others answer number part.heading.parts (length text) (first_or part.heading first)
        (part.heading.parts == number) refl (subst (λ n. Demands (number + 1 ≡ n + 1) PartOrder answer) counts right)
    after_told part faultless read same more rest false ended (Last at none) =
        absurd (false≢true (sym ended ∙ eq-eqb part.end (length text) (faultless.ends ∙ at)))
    after_told part faultless read same more rest true ended (More front whole others less) =
        let at = eqb-true part.end (length text) ended in absurd (omega (arith, at, less, faultless.ends))
    after_told part faultless read same more rest false ended (More front whole others less) =
        let (numbered, parts) = parts_known first number part.heading faultless.due in
        let key = keyed_on s text first index part.heading keyed faultless.keyed in
        let parts_left : cut.others ≡ parts_of (drop part.end text) =
        others ∙ ap (λ n. parts_of (drop n text)) (sym faultless.ends) in
        let counts : read.parts ≡ (first_or part.heading first).parts = same ∙ parts in
        let end : index + length cut.part ≡ part.end = omega (arith, cut.size, faultless.ends) in
        let place : next_part_start start read.parts cut.part
        ≡ start_of (number + 1) (Some (first_or part.heading first).parts) part.end =
        λ i. record { number = number + 1; expected = Some (counts i); bytes_before = end i } in
        let seen = form_from text left (Some (first_or part.heading first)) (number + 1) part.end in
        subst (λ others. IsTold s all (next_part_start start read.parts cut.part) others answer seen) (sym parts_left)
        (subst (λ p. IsTold s all p (parts_of (drop part.end text)) answer seen) (sym place)
        (later (first_or part.heading first) part.end more (omega (arith, faultless.ends, less))
        (omega (arith, numbered, faultless.few)) key parts_left
        (subst (λ p. ReadsPartsTo s (IsAnswerAt s answer) p (parts_of (drop part.end text)) more) place
        (subst (λ others. ReadsPartsTo s (IsAnswerAt s answer) (next_part_start start read.parts cut.part) others more)
        parts_left rest))))

    part_told : (seen : Result FormPart MessageFault) → IsPartSeen s text first number index inside cut seen
        → ReadsPartsTo s (IsAnswerAt s answer) start (cut.part ∷ cut.others) letters
        → IsTold s all start (cut.part ∷ cut.others) answer (seen >>= after_part text left first number)
    part_told (Err found) seen (inl ((fault, refused, is), nil)) =
        let right = shown_refused s start cut.part found.fault seen in
        let one = HasOneAnswer-part s start cut.part (Err fault) (Err found.fault) refused right in inl (cc (is, one))
    part_told (Err found) seen (inr (read, more, is, rest, joined)) =
        let right = shown_refused s start cut.part found.fault seen in
        let clash = HasOneAnswer-part s start cut.part (Ok read) (Err found.fault) is right in absurd (cc)
    part_told (Ok part) faultless (inl ((fault, refused, is), nil)) =
        refused_told s all start (cut.part ∷ cut.others) answer _ (record {
          part = cut.part;
          fault = fault;
          is_part = known cut.part (0, omega arith, refl);
          letters = [];
          before = inl ((cut.others, refl), refl);
          by = faultless.told (Err fault) refused;
          answered = is;
        })
    part_told (Ok part) faultless (inr (read, more, is, rest, joined)) =
        told_later s all start cut.part cut.others answer read is _
        (after_told part faultless read (faultless.told (Ok read) is) more rest (part.end == length text) refl cut.after)

  form_told : (left : ℕ) (first : Option FormHeading) (number index : ℕ) (letters : List ℕ) → index ≤ length text
      → left + number ≡ 101 → number ≤ 100 → IsKeyed s text first index
      → ((part : List ℕ) → Contains (parts_of (drop index text)) part → Contains all part)
      → ReadsFrom first number index letters
      → IsTold s all (start_of number (option_map (λ heading. heading.parts) first) index) (parts_of (drop index text))
      answer (form_from text left first number index)
  form_told zero first number index letters inside count few keyed known reads = absurd (omega (arith, count, few))
  form_told (suc left) first number index letters inside count few keyed known reads =
      let cut = cut_of text index inside in
      let parts : parts_of (drop index text) ≡ cut.part ∷ cut.others =
      as_parts (drop index text) cut.part cut.others cut.cut in
      let here : (part : List ℕ) → Contains (cut.part ∷ cut.others) part → Contains all part =
      λ part is. known part (subst (λ ps. Contains ps part) (sym parts) is) in
      subst (λ ps. IsTold s all (start_of number (option_map (λ heading. heading.parts) first) index) ps answer
      (form_from text (suc left) first number index)) (sym parts)
      (part_told left first number index letters inside cut keyed here
      (λ heading end more within few key others rest. form_told left (Some heading) (number + 1) end more within
      (omega (arith, count)) few key
      (λ part is. here part (Contains-append_right (cut.part ∷ []) cut.others part
      (subst (λ ps. Contains ps part) (sym others) is))) rest)
      (part_at text first number index) (part_seen s text first number index inside cut keyed)
      (subst (λ ps. ReadsPartsTo s (IsAnswerAt s answer) (start_of number (option_map (λ heading. heading.parts) first)
      index) ps letters) parts reads))

form_judged : (s : Day) (form : List ℕ) (answer : Result (Unit {0}) FormFault) (letters : List ℕ)
    (seen : Result FormHeading MessageFault) → IsDayOfForm s form → form_answer form ≡ seen
    → ReadsPartsTo s (IsAnswerAt s answer) first_part_start (parts_of form) letters
    → IsTold s (parts_of form) first_part_start (parts_of form) answer seen
form_judged s form answer letters seen day is reads =
    subst (IsTold s (parts_of form) first_part_start (parts_of form) answer) is
    (form_told s form (parts_of form) answer 100 None 1 0 letters (omega arith) (omega arith) (omega arith)
    (λ end counted. subst (λ r. IfOk r (λ end. HasKeyLineForm s (heading_keys form end))) counted day)
    (λ part is. is) reads)

refused_letters : (s : Day) (form : List ℕ) (fault : FormFault)
    → IsLettersRefusal s (parts_of form) first_part_start (parts_of form) (Err fault)
    → IsRefusedForLetters s form (Err fault)
refused_letters s form fault refused = record {
  part = refused.part;
  heading = refused.by.heading;
  body = refused.by.body;
  fault = refused.fault;
  is_part = refused.is_part;
  letters = refused.letters;
  before = refused.before;
  headed = refused.by.headed;
  found = refused.by.found;
  answered = cc (refused.answered);
}

pub form_faults_agree : FormFaultsAreThoseOfReceive
form_faults_agree s form found (Ok text) day is (parts, (letters, reads, shown), whole) =
    elim (form_judged s form (Ok tt) letters (Err found) day is reads) [
      | inl same ↦ absurd (cc)
      | inr refused ↦ absurd (cc (refused.answered))
    ]
form_faults_agree s form found (Err fault) day is (text, (letters, reads, shown)) =
    elim (form_judged s form (Err fault) letters (Err found) day is reads) [
      | inl same ↦ inl (cc)
      | inr refused ↦ inr (refused_letters s form fault refused)
    ]

pub faultless_forms_agree : FaultlessFormsAreReceived
faultless_forms_agree s form first (Ok text) day is told = inl (text, refl)
faultless_forms_agree s form first (Err fault) day is (text, (letters, reads, shown)) =
    elim (form_judged s form (Err fault) letters (Ok first) day is reads) [
      | inl same ↦ absurd (cc)
      | inr refused ↦ inr (refused_letters s form fault refused)
    ]

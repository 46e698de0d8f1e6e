-- What `look` says of a form is what the form shows without deciphering.
use Rattle.std.proofs.Common.{◌≡◌, ◌∙◌, ℕ, zero, suc, ◌+◌, ◌≤◌, ◌==◌, Bool, true, false, List, ◌∷◌}
use Rattle.std.proofs.Common.{Option, Some, None, Result, Ok, Err, ap, arith, drop, length, refl, subst, IfOk, sym, inl, inr}
use Rattle.std.proofs.Common.{option_map}
use Rattle.std.proofs.lemmas.Bool.{eq-eqb, eqb-true, false≢true}
use Rattle.kd_state.specs.AnswerRules.{Demands, GoesOn, HasFault}
use Rattle.kd_state.specs.SheetDay.{Day}
use Rattle.kd_form.specs.declared.fault.FormFault.{FormFault}
use Rattle.kd_form.specs.declared.fault.FormFault.TheVariants.{PartOrder}
use Rattle.kd_form.specs.FormParts.{parts_of}
use Rattle.kd_form.specs.FormText.{IsTextOf, next_part_start}
use Rattle.kd_form.specs.PartReading.{PartStart}
use Rattle.kd_form.proofs.Headings.{as_parts}
use Rattle.kd_form.proofs.OneText.{start_of}
use Rattle.kd_sheet.specs.Document.{◌>>=◌}
use Rattle.kd_look.specs.Form.{first_or, form_answer, form_from, part_at}
use Rattle.kd_look.specs.FormHeading.{heading_keys}
use Rattle.kd_look.specs.FormShown.{AreShownPartsAnswer}
use Rattle.kd_look.specs.Laws.{FormsAreSeenWithoutLetters, HasKeyLineForm, IsDayOfForm, form_result}
use Rattle.kd_look.specs.declared.message.fault.MessageFault.{MessageFault}
use Rattle.kd_look.specs.declared.message.form.FormPart.{FormPart}
use Rattle.kd_look.specs.declared.message.form_heading.FormHeading.{FormHeading}
use Rattle.kd_look.proofs.Form.{after_part, answer_after, end_answer}
use Rattle.kd_look.proofs.Forms.{form_faults_agree, IsKeyed, IsPartFaultless, IsPartSeen, keyed_on, part_seen, parts_known}
use Rattle.kd_look.proofs.PartsCut.{IsPartCut, IsAfterPart, Last, More, cut_of, first_end}

-- after the last part
count_shown : (number count length : ℕ) (first : FormHeading) (right : Bool) → (count == number) ≡ right
    → Demands (number + 1 ≡ count + 1) PartOrder
    (form_result (end_answer length first right))
count_shown number count length first true right = ap (λ n. n + 1) (sym (eqb-true count number right))
count_shown number count length first false wrong =
    ((λ _ same. false≢true (sym wrong ∙ eq-eqb count number (omega (arith, same)))), refl)

module _ (s : Day) (text : List ℕ) where
  abbrev IsShownFrom : Option FormHeading → ℕ → ℕ → Result FormHeading MessageFault → Type 0
  IsShownFrom first number index seen =
      AreShownPartsAnswer s (start_of number (option_map (λ heading. heading.parts) first) index)
      (parts_of (drop index text)) (form_result seen)

  module _ (left : ℕ) (first : Option FormHeading) (number index : ℕ) (inside : index ≤ length text)
      (cut : IsPartCut text index (first_end text index)) (keyed : IsKeyed s text first index)
      (later : (heading : FormHeading) (end : ℕ) → end ≤ length text → number + 1 ≤ 100
      → HasKeyLineForm s heading.keys
      → IsShownFrom (Some heading) (number + 1) end (form_from text left (Some heading) (number + 1) end)) where
    abbrev start : PartStart
    start = start_of number (option_map (λ heading. heading.parts) first) index

    after_shown : (part : FormPart) → IsPartFaultless s text first number index inside cut part
        → (last : Bool) → (part.end == length text) ≡ last → IsAfterPart text cut.part (first_end text index) cut.others
        → AreShownPartsAnswer s (next_part_start start part.heading.parts cut.part) cut.others
        (form_result (answer_after text left first number part last))
    after_shown part faultless true ended (Last at none) =
        subst (λ others. AreShownPartsAnswer s (next_part_start start part.heading.parts cut.part) others
        (form_result (answer_after text left first number part true))) (sym none) (
          part.heading.parts,
          refl,
          count_shown number part.heading.parts (length text) (first_or part.heading first)
              (part.heading.parts == number) refl,
        )
    after_shown part faultless false ended (Last at none) =
        absurd (false≢true (sym ended ∙ eq-eqb part.end (length text) (faultless.ends ∙ at)))
    after_shown part faultless true ended (More front whole others less) =
        let at = eqb-true part.end (length text) ended in absurd (omega (arith, at, less, faultless.ends))
    after_shown part faultless false ended (More front whole others less) =
        let (numbered, parts) = parts_known first number part.heading faultless.due in
        let key = keyed_on s text first index part.heading keyed faultless.keyed in
        let parts_left : cut.others ≡ parts_of (drop part.end text) =
        others ∙ ap (λ n. parts_of (drop n text)) (sym faultless.ends) in
        let end : index + length cut.part ≡ part.end = omega (arith, cut.size, faultless.ends) in
        let place : next_part_start start part.heading.parts cut.part
        ≡ start_of (number + 1) (Some (first_or part.heading first).parts) part.end =
        λ i. record { number = number + 1; expected = Some (parts i); bytes_before = end i } in
        let seen : Result (Unit {0}) FormFault =
        form_result (form_from text left (Some (first_or part.heading first)) (number + 1) part.end) in
        subst (λ others. AreShownPartsAnswer s (next_part_start start part.heading.parts cut.part) others seen)
        (sym parts_left)
        (subst (λ p. AreShownPartsAnswer s p (parts_of (drop part.end text)) seen) (sym place)
        (later (first_or part.heading first) part.end (omega (arith, faultless.ends, less))
        (omega (arith, numbered, faultless.few)) key))

    part_shown : (seen : Result FormPart MessageFault) → IsPartSeen s text first number index inside cut seen
        → AreShownPartsAnswer s start (cut.part ∷ cut.others)
        (form_result (seen >>= after_part text left first number))
    part_shown (Err found) seen = HasFault found.fault seen refl
    part_shown (Ok part) faultless = GoesOn part.heading.parts faultless.shown
        (after_shown part faultless (part.end == length text) refl cut.after)

  form_shown : (left : ℕ) (first : Option FormHeading) (number index : ℕ) → index ≤ length text
      → left + number ≡ 101 → number ≤ 100 → IsKeyed s text first index
      → IsShownFrom first number index (form_from text left first number index)
  form_shown zero first number index inside count few keyed = absurd (omega (arith, count, few))
  form_shown (suc left) first number index inside count few keyed =
      let cut = cut_of text index inside in
      let parts : parts_of (drop index text) ≡ cut.part ∷ cut.others =
      as_parts (drop index text) cut.part cut.others cut.cut in
      subst (λ ps. AreShownPartsAnswer s (start_of number (option_map (λ heading. heading.parts) first) index) ps
      (form_result (form_from text (suc left) first number index))) (sym parts)
      (part_shown left first number index inside cut keyed
      (λ heading end within few key. form_shown left (Some heading) (number + 1) end within (omega (arith, count)) few key)
      (part_at text first number index) (part_seen s text first number index inside cut keyed))

pub forms_seen : FormsAreSeenWithoutLetters
forms_seen s form day =
    form_shown s form 100 None 1 0 (omega arith) (omega arith) (omega arith)
    (λ end counted. subst (λ r. IfOk r (λ end. HasKeyLineForm s (heading_keys form end))) counted day)

-- -------- the machine of a form without a fault

-- the first heading is for the day's machine, if no fault is found
abbrev IsKeyedAnswer : Day → Result FormHeading MessageFault → Type 0
IsKeyedAnswer s seen = IfOk seen (λ first. HasKeyLineForm s first.keys)

last_keyed : (s : Day) (length : ℕ) (first : FormHeading) (right : Bool) → HasKeyLineForm s first.keys
    → IsKeyedAnswer s (end_answer length first right)
last_keyed s length first true same = same
last_keyed s length first false same = tt

module _ (s : Day) (text : List ℕ) where
  module _ (left : ℕ) (first : Option FormHeading) (number index : ℕ) (inside : index ≤ length text)
      (cut : IsPartCut text index (first_end text index)) (keyed : IsKeyed s text first index)
      (later : (heading : FormHeading) (end : ℕ) → end ≤ length text → HasKeyLineForm s heading.keys
      → IsKeyedAnswer s (form_from text left (Some heading) (number + 1) end)) where
    after_keyed : (part : FormPart) → IsPartFaultless s text first number index inside cut part
        → (last : Bool) → IsAfterPart text cut.part (first_end text index) cut.others
        → IsKeyedAnswer s (answer_after text left first number part last)
    after_keyed part faultless true after =
        last_keyed s (length text) (first_or part.heading first) (part.heading.parts == number)
        (keyed_on s text first index part.heading keyed faultless.keyed)
    after_keyed part faultless false (Last at none) =
        later (first_or part.heading first) part.end (omega (arith, faultless.ends, at))
        (keyed_on s text first index part.heading keyed faultless.keyed)
    after_keyed part faultless false (More front whole others less) =
        later (first_or part.heading first) part.end (omega (arith, faultless.ends, less))
        (keyed_on s text first index part.heading keyed faultless.keyed)

    part_keyed : (seen : Result FormPart MessageFault) → IsPartSeen s text first number index inside cut seen
        → IsKeyedAnswer s (seen >>= after_part text left first number)
    part_keyed (Err found) seen = tt
    part_keyed (Ok part) faultless = after_keyed part faultless (part.end == length text) cut.after

  form_keyed : (left : ℕ) (first : Option FormHeading) (number index : ℕ) → index ≤ length text
      → IsKeyed s text first index → IsKeyedAnswer s (form_from text left first number index)
  form_keyed zero first number index inside keyed = tt
  form_keyed (suc left) first number index inside keyed =
      let cut = cut_of text index inside in
      part_keyed left first number index inside cut keyed
      (λ heading end within key. form_keyed left (Some heading) (number + 1) end within key)
      (part_at text first number index) (part_seen s text first number index inside cut keyed)

-- for a form that `receive` reads, `look` finds a first heading for the day's machine
pub text_keyed : (s : Day) (form text : List ℕ) → IsDayOfForm s form → IsTextOf s form text
    → (first : FormHeading) × (form_answer form ≡ Ok first) × HasKeyLineForm s first.keys
text_keyed s form text day is = found (form_answer form) refl
    (form_keyed s form 100 None 1 0 (omega arith)
    (λ end counted. subst (λ r. IfOk r (λ end. HasKeyLineForm s (heading_keys form end))) counted day))
  where
    found : (seen : Result FormHeading MessageFault) → form_answer form ≡ seen → IsKeyedAnswer s seen
        → (first : FormHeading) × (form_answer form ≡ Ok first) × HasKeyLineForm s first.keys
    found (Ok first) same keyed = (first, same, keyed)
    found (Err fault) same keyed = elim (form_faults_agree s form fault (Ok text) day same is) [
      | inl refused ↦ absurd (cc)
      | inr refused ↦ absurd (cc (refused.answered))
    ]

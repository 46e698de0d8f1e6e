-- A form becomes one text or has one fault; a fault that stands stays when more bytes follow.
pub use Rattle.kd_form.proofs.Prelude.{err_is, append-nil, ◌≡◌, ℕ, ◌+◌, ◌-◌, inl, inr, List, [], ◌∷◌, ◌++◌, length}
pub use Rattle.kd_form.proofs.Prelude.{Result, Ok, Err, refl, sym, ap, subst, ◌∙◌, append_assoc, arith, All, IsTrue}
pub use Rattle.kd_form.proofs.Prelude.{Option, Some, None, is_text_byte, Day, FormFault, PartOrder, Heading, Indicator}
pub use Rattle.kd_form.proofs.Prelude.{HasOneAnswer-Demands, HasOneAnswer-Finds, HasOneAnswer-ThenNext}
pub use Rattle.kd_form.proofs.Prelude.{HasOneAnswer-Yields, GoesOn, HasFault, IsLettersAnswer, HasHeading}
pub use Rattle.kd_form.proofs.Prelude.{BeginsHeading, IsAtPartStart, PartsProperty, PartStart, first_part_start}
pub use Rattle.kd_form.proofs.Prelude.{next_part_start, ReadsPartsTo, IsAnswerAt, IsAnswerAfter, IsPartFaultForGood}
pub use Rattle.kd_form.proofs.Prelude.{AtPart, cut_at_headings, IsRefusedForGood, plaintext_bytes, parts_of, NoHeading}
pub use Rattle.kd_form.proofs.Prelude.{false, length-append, Port, FailureAgrees, form_message, order_message}
pub use Rattle.kd_form.proofs.Prelude.{IsStreamAnswer, is_device, is_off_key, IsWithout, FormsHaveOneAnswer}
pub use Rattle.kd_form.proofs.Prelude.{FormsStayRefused, false≢true, Keys, Rotor, Pin, IsKeysAnswer, IsBytesAnswer}
pub use Rattle.kd_form.proofs.Prelude.{IsReadAnswer, IsOrderAnswer, Message, HasDueNumbers, HasOneAnswer, Demands}
pub use Rattle.kd_form.proofs.Prelude.{PartContent, ReadPart, IsContentAnswer, IsPartAnswer}
use Rattle.kd_form.proofs.{Rules.{bytes_allowed, FaultsAre, faults, one_answers, ThenNext-stays, ThenNext-first}}
use Rattle.kd_form.proofs.Prelude.{IsDividedAnswer}
use Rattle.kd_form.proofs.OneOrder.{one_internal_key, HasOneAnswer-bytes}
use Rattle.kd_form.proofs.Headings.{one_heading, begins_there, begins_more, first_there, ended_heading, heading_there}
use Rattle.kd_form.proofs.Headings.{IsAlike, cut_at_headings-IsAlike, as_parts, first_done, cut_at_headings-whole}

-- -------- a part of a form has one text, or one fault

HasOneAnswer-letters : (s : Day) (part : ℕ) (i : Option Indicator) (letters : List ℕ)
    → HasOneAnswer (IsLettersAnswer s part i letters)
HasOneAnswer-letters s part (Some i) letters = search one_answers depth 9
HasOneAnswer-letters s part None letters = search (one_answers, one_internal_key) depth 12

-- the start of a part
abbrev pub start_of : ℕ → Option ℕ → ℕ → PartStart
start_of number expected start = record { number = number; expected = expected; bytes_before = start }

pub right_content : {s : Day} {number : ℕ} {expected : Option ℕ} {part : List ℕ} {h : Heading} {body : List ℕ}
    (start : ℕ) → HasHeading s part h body → HasDueNumbers number expected h
    → All (λ b. IsTrue (is_text_byte b)) body
    → IsContentAnswer s (start_of number expected start) part (Ok (record { heading = h; body = body }))
right_content {body = body} start has due allowed =
    GoesOn _ has (GoesOn tt due (GoesOn tt (bytes_allowed _ body allowed) refl))

pub HasOneAnswer-content : (s : Day) (p : PartStart) (part : List ℕ) → HasOneAnswer (IsContentAnswer s p part)
HasOneAnswer-content s p part =
    HasOneAnswer-ThenNext (HasOneAnswer-Finds _ (λ x y a b.
    let same = one_heading s part x.heading y.heading x.body y.body a b in λ i.
    record { heading = same.0 i; body = same.1 i }))
    (λ x _. HasOneAnswer-ThenNext (HasOneAnswer-Demands _ _) (λ _ _.
    HasOneAnswer-ThenNext (HasOneAnswer-bytes _ x.body) (λ _ _. HasOneAnswer-Yields x)))

HasOneAnswer-part : (s : Day) (p : PartStart) (part : List ℕ) → HasOneAnswer (IsPartAnswer s p part)
HasOneAnswer-part s p part = search (one_answers, HasOneAnswer-content, HasOneAnswer-letters)

-- -------- parts that are read

module _ (s : Day) where
  pub reads_as : (A B : PartsProperty) → ((p : PartStart) (parts : List (List ℕ)) → A p parts → B p parts)
      → (p : PartStart) (parts : List (List ℕ)) (letters : List ℕ)
      → ReadsPartsTo s A p parts letters → ReadsPartsTo s B p parts letters
  reads_as A B to p [] letters (held, none) = (to p [] held, none)
  reads_as A B to p (part ∷ parts) letters (inl (held, none)) = inl (to p (part ∷ parts) held, none)
  reads_as A B to p (part ∷ parts) letters (inr (read, more, is, rest, joined)) =
      inr (read, more, is, reads_as A B to (next_part_start p read.parts part) parts more rest, joined)

  -- if `parts` are read from `p` to `q`, and `others` from `q` on, all of them are read from `p` on
  pub reads_then : (q : PartStart) (B : PartsProperty) (p : PartStart) (parts others : List (List ℕ))
      (letters more : List ℕ)
      → ReadsPartsTo s (IsAtPartStart q) p parts letters → ReadsPartsTo s B q others more
      → ReadsPartsTo s B p (parts ++ others) (letters ++ more)
  reads_then q B p [] others letters more ((there, none), nil) rest = grind arith
  reads_then q B p (part ∷ parts) others letters more (inl ((there, none), nil)) rest = absurd (cc)
  reads_then q B p (part ∷ parts) others letters more (inr (read, left, is, reads, joined)) rest =
      inr (
        read,
        left ++ more,
        is,
        reads_then q B (next_part_start p read.parts part) parts others left more reads rest,
        ap (λ l. l ++ more) joined ∙ append_assoc read.letters left more,
      )

  -- if `A` holds of the parts left, then after the next part, no reading of further parts ends where `B` holds
  abbrev pub NeverPasses : PartsProperty → PartsProperty → Type 0
  NeverPasses A B =
      (p : PartStart) (part : List ℕ) (parts : List (List ℕ)) (read : ReadPart) (more : List ℕ) → A p (part ∷ parts)
      → IsPartAnswer s p part (Ok read) → ¬ (ReadsPartsTo s B (next_part_start p read.parts part) parts more)

  pub IsAnswerAt-for_good : (fault : FormFault) (p : PartStart) (parts : List (List ℕ))
      → IsPartFaultForGood s fault p parts → IsAnswerAt s (Err fault) p parts
  IsAnswerAt-for_good fault p [] none = absurd none
  IsAnswerAt-for_good fault p (part ∷ []) (ended, found) = (fault, HasFault fault found refl, refl)
  IsAnswerAt-for_good fault p (part ∷ next ∷ others) refused = (fault, refused, refl)

module _ (s : Day) where
  -- -------- a form becomes one text, or has one fault

  -- if `A` never holds past `B`, nor `B` past `A`, reading up to `A` and reading up to `B` end at the same place,
  -- with the same letters
  pub reads_meet : (A B : PartsProperty) (R : Type 0) → NeverPasses s A B → NeverPasses s B A
      → ((p : PartStart) (parts : List (List ℕ)) → A p parts → B p parts → R)
      → (p : PartStart) (parts : List (List ℕ)) (letters more : List ℕ) → ReadsPartsTo s A p parts letters
      → ReadsPartsTo s B p parts more → (letters ≡ more) × R
  reads_meet A B R over under at p [] letters more (a, none) (b, nil) = (none ∙ sym nil, at p [] a b)
  reads_meet A B R over under at p (part ∷ parts) letters more (inl (a, none)) (inl (b, nil)) = grind arith
  reads_meet A B R over under at p (part ∷ parts) letters more (inl (a, none)) (inr (read, left, is, rest, joined)) =
      absurd (over p part parts read left a is rest)
  reads_meet A B R over under at p (part ∷ parts) letters more (inr (read, left, is, rest, joined)) (inl (b, nil)) =
      absurd (under p part parts read left b is rest)
  reads_meet A B R over under at p (part ∷ parts) letters more (inr (read, left, is, rest, joined))
      (inr (other, gone, also, beyond, linked)) =
      let one = HasOneAnswer-part s p part (Ok read) (Ok other) is also in
      let same : other ≡ read = cc in
      let both = reads_meet A B R over under at (next_part_start p read.parts part) parts left gone rest
      (subst (λ (r : ReadPart). ReadsPartsTo s B (next_part_start p r.parts part) parts gone) same beyond) in
      (cc (joined, linked, same, both.0), both.1)

  -- ---- one answer

  -- a part that can be read has no fault
  pub read_or_refused : (p : PartStart) (part : List ℕ) (read : ReadPart) (fault : FormFault)
      → IsPartAnswer s p part (Err fault) → ¬ (IsPartAnswer s p part (Ok read))
  read_or_refused p part read fault refused is =
      let clash = HasOneAnswer-part s p part (Ok read) (Err fault) is refused in cc

  pub never_passes : (v w : Result (Unit {0}) FormFault) → NeverPasses s (IsAnswerAt s v) (IsAnswerAt s w)
  never_passes v w p part parts read more (fault, refused, answer) is rest =
      read_or_refused p part read fault refused is

  IsAnswerAt-one : (v w : Result (Unit {0}) FormFault) (p : PartStart) (parts : List (List ℕ)) → IsAnswerAt s v p parts
      → IsAnswerAt s w p parts → v ≡ w
  IsAnswerAt-one v w p [] (count, is, answer) (other, also, answers) =
      let same : other ≡ count = cc in
      HasOneAnswer-Demands _ _ v w answer (subst (λ n. Demands (p.number ≡ n + 1) PartOrder w) same answers)
  IsAnswerAt-one v w p (part ∷ parts) (fault, refused, answer) (found, also, answers) =
      let both = HasOneAnswer-part s p part (Err fault) (Err found) refused also in cc

  pub one_reading : (form text more : List ℕ) (v w : Result (Unit {0}) FormFault) → IsAnswerAfter s form text v
      → IsAnswerAfter s form more w → (text ≡ more) × (v ≡ w)
  one_reading form text more v w (letters, reads, is) (others, also, so) =
      let both = reads_meet (IsAnswerAt s v) (IsAnswerAt s w) (v ≡ w) (never_passes v w) (never_passes w v)
      (IsAnswerAt-one v w)
      first_part_start (parts_of form) letters others reads also in
      (is ∙ ap (plaintext_bytes s) both.0 ∙ sym so, both.1)

pub forms_have_one_answer : FormsHaveOneAnswer
forms_have_one_answer s form (Ok text) (Ok other) (one, reads, is) (two, also, so) =
    cc ((one_reading s form one two (Ok tt) (Ok tt) reads also).0)
forms_have_one_answer s form (Err fault) (Err other) (one, reads) (two, also) =
    cc ((one_reading s form one two (Err fault) (Err other) reads also).1)
forms_have_one_answer s form (Ok text) (Err fault) (one, reads, is) (two, also) =
    cc ((one_reading s form one two (Ok tt) (Err fault) reads also).1)
forms_have_one_answer s form (Err fault) (Ok text) (one, reads) (two, also, is) =
    cc ((one_reading s form one two (Err fault) (Ok tt) reads also).1)

-- a fault for good is the form's fault
pub refused_after : (s : Day) (form text : List ℕ) (fault : FormFault) → IsRefusedForGood s form text fault
    → IsAnswerAfter s form text (Err fault)
refused_after s form text fault (NoHeading none empty is) =
    let (rest, joined) = first_there form in
    let unheaded = λ (x : PartContent) (has : HasHeading s (cut_at_headings form).0 x.heading x.body).
    none [] (subst BeginsHeading (sym joined ∙ sym (append-nil form))
    (begins_more (cut_at_headings form).0 rest (begins_there s (cut_at_headings form).0 x.heading x.body has))) in
    ([], inl ((fault, HasFault fault (HasFault fault (unheaded, is) refl) refl, refl), refl), empty)
refused_after s form text fault (AtPart (letters, reads, is)) =
    let to = reads_as s (IsPartFaultForGood s fault) (IsAnswerAt s (Err fault)) (IsAnswerAt-for_good s fault) in
    (letters, to first_part_start (parts_of form) letters reads, is)

-- -------- answers whose reason is a device or the machine

-- the fault is neither `Device` nor `NotReady` nor `NotOnKey`
pub record IsOfMessages (fault : FormFault) : Type 0 where
  pub no_device : is_device (Err fault) ≡ false
  pub no_machine : is_off_key (Err fault) ≡ false

divided_faults : (s : Day) (order : List ℕ) → FaultsAre IsOfMessages (IsDividedAnswer s order)
divided_faults s order = record { are = λ fault (position, at, is). rw is search }

keys_faults : (s : Day) (part : ℕ) (k : Keys) → FaultsAre IsOfMessages (IsKeysAnswer s part k)
keys_faults s part (Rotor k) = search faults
keys_faults s part (Pin k) = search faults

letters_faults : (s : Day) (part : ℕ) (i : Option Indicator) (letters : List ℕ)
    → FaultsAre IsOfMessages (IsLettersAnswer s part i letters)
letters_faults s part (Some i) letters = search faults
letters_faults s part None letters = search faults depth 9

pub bytes_faults : (position : ℕ) (text : List ℕ) → FaultsAre IsOfMessages (IsBytesAnswer position text)
bytes_faults position text = search faults

read_faults : (s : Day) (order : List ℕ) → FaultsAre IsOfMessages (IsReadAnswer s order)
read_faults s order = search (faults, divided_faults, keys_faults, bytes_faults)

order_faults : (s : Day) (order : List ℕ) → FaultsAre IsOfMessages (IsOrderAnswer s order)
order_faults s order = search (faults, read_faults)

part_faults : (s : Day) (p : PartStart) (part : List ℕ) → FaultsAre IsOfMessages (IsPartAnswer s p part)
part_faults s p part = search (faults, bytes_faults, letters_faults)

parts_refused : (s : Day) (fault : FormFault) (p : PartStart) (parts : List (List ℕ)) (letters : List ℕ)
    → ReadsPartsTo s (IsAnswerAt s (Err fault)) p parts letters → IsOfMessages fault
parts_refused s fault p [] letters ((count, expected, answer), none) = rw answer.1 search
parts_refused s fault p (part ∷ parts) letters (inl ((f, found, is), none)) =
    let same : fault ≡ f = cc in rw same ((part_faults s p part).are f found)
parts_refused s fault p (part ∷ parts) letters (inr (read, more, is, rest, joined)) =
    parts_refused s fault (next_part_start p read.parts part) parts more rest

refused_form : (s : Day) (form text : List ℕ) (fault : FormFault) → IsAnswerAfter s form text (Err fault)
    → IsOfMessages fault
refused_form s form text fault (letters, reads, is) =
    parts_refused s fault first_part_start (parts_of form) letters reads

-- if no fault of the messages is `Device`, `NotReady` or `NotOnKey`, a device failed exactly if the answer says so, and
-- the machine isn't the reason for the answer
pub FailureAgrees-answer : (m : Message) (source sink : Port) (read text : List ℕ)
    (answer : Result (Unit {0}) FormFault) → ((fault : FormFault) → m.stands read fault → IsOfMessages fault)
    → ((fault : FormFault) → m.refused read fault → IsOfMessages fault)
    → IsStreamAnswer m source sink read text answer
    → FailureAgrees source sink (is_device answer) × (is_off_key answer ≡ false)
FailureAgrees-answer m source sink read text answer stands refused answers = grind (arith, stands, refused)

pub FailureAgrees-order : (s : Day) (source sink : Port) (read text : List ℕ) (answer : Result (Unit {0}) FormFault)
    → IsStreamAnswer (order_message s) source sink read text answer
    → FailureAgrees source sink (is_device answer) × (is_off_key answer ≡ false)
FailureAgrees-order s source sink read text answer =
    FailureAgrees-answer (order_message s) source sink read text answer
    (λ fault good. (read_faults s read).are fault good.found) (order_faults s read).are

pub FailureAgrees-form : (s : Day) (source sink : Port) (read text : List ℕ) (answer : Result (Unit {0}) FormFault)
    → IsStreamAnswer (form_message s) source sink read text answer
    → FailureAgrees source sink (is_device answer) × (is_off_key answer ≡ false)
FailureAgrees-form s source sink read text answer =
    FailureAgrees-answer (form_message s) source sink read text answer
    (λ fault (before, good). refused_form s read before fault (refused_after s read before fault good))
    (λ fault (before, found). refused_form s read before fault found)

-- -------- faults that stand in a form

-- a fault of the content depends only on the heading line, and on the first byte of the body that isn't allowed
content_as_well : (s : Day) (p : PartStart) (line body other : List ℕ) (fault : FormFault) → IsWithout 10 line
    → ((position : ℕ) (fault : FormFault) → IsBytesAnswer position body (Err fault)
    → IsBytesAnswer position other (Err fault))
    → IsContentAnswer s p (line ++ 10 ∷ body) (Err fault) → IsContentAnswer s p (line ++ 10 ∷ other) (Err fault)
content_as_well s p line body other fault unbroken bad =
    ThenNext-stays (λ x. record { heading = x.heading; body = other })
    (λ (none, e). (
      (λ x has. none (record { heading = x.heading; body = body })
          (ended_heading s line body x.heading unbroken has.is_heading
          (heading_there s line other x.heading x.body unbroken has).0)),
      e,
    )) (λ x has told.
    let there = heading_there s line body x.heading x.body unbroken has in
    let place : p.bytes_before + (length (line ++ 10 ∷ body) - length x.body) + 1
    ≡ p.bytes_before + (length (line ++ 10 ∷ other) - length other) + 1 =
    omega (arith, ap length there.1, length-append line (10 ∷ body), length-append line (10 ∷ other)) in (
      ended_heading s line other x.heading unbroken has.is_heading there.0,
      ThenNext-stays (λ d. d) (λ wrong. wrong) (λ done due next.
          (due, ThenNext-first (λ found. bad _ fault (rw (place, there.1) at found)) next)) told,
    ))

-- a fault that stands at a part also stands with more bytes
stands_on : (s : Day) (fault : FormFault) (more : List ℕ) → (p : PartStart) (rest : List ℕ)
    → IsPartFaultForGood s fault p (parts_of rest) → IsPartFaultForGood s fault p (parts_of (rest ++ more))
stands_on s fault more p rest stands = split (cut_at_headings rest).1 refl stands where
  first_stands : (first line other : List ℕ) (others : List (List ℕ)) → first ≡ line ++ 10 ∷ other → IsWithout 10 line
      → IsContentAnswer s p first (Err fault) → IsPartFaultForGood s fault p (first ∷ others)
  first_stands first line other [] is without found = ((line, other, record { joined = is; without = without }), found)
  first_stands first line other (next ∷ others) is without found = HasFault fault found refl

  split : (others : List (List ℕ)) → (cut_at_headings rest).1 ≡ others
      → IsPartFaultForGood s fault p ((cut_at_headings rest).0 ∷ others)
      → IsPartFaultForGood s fault p (parts_of (rest ++ more))
  split [] none ((line, body, broken), early) =
      let whole : rest ≡ line ++ 10 ∷ body = sym (cut_at_headings-whole rest none) ∙ broken.joined in
      let like : IsAlike (cut_at_headings (rest ++ more)).0 line body =
      rw whole (cut_at_headings-IsAlike line body more broken.without (rw whole at none)) in
      first_stands (cut_at_headings (rest ++ more)).0 line like.other (cut_at_headings (rest ++ more)).1 like.is
      broken.without
      (rw like.is (content_as_well s p line body like.other fault broken.without like.bad (rw broken.joined at early)))
  split (next ∷ others) some refused =
      let done = first_done rest (λ none. cc) in
      subst (λ (c : List ℕ × List (List ℕ)). IsPartFaultForGood s fault p (c.0 ∷ c.1)) (sym (done.grows more)) refused

-- a fault that stands at a later part also stands with more bytes
ReadsPartsTo-append : (s : Day) (fault : FormFault) (more : List ℕ) (p : PartStart) (parts : List (List ℕ))
    (form letters : List ℕ)
    → parts_of form ≡ parts → ReadsPartsTo s (IsPartFaultForGood s fault) p parts letters
    → ReadsPartsTo s (IsPartFaultForGood s fault) p (parts_of (form ++ more)) letters
ReadsPartsTo-append s fault more p [] form letters same reads = absurd reads.0
ReadsPartsTo-append s fault more p (part ∷ parts) form letters same (inl (stands, nil)) =
    inl (stands_on s fault more p form (subst (IsPartFaultForGood s fault p) (sym same) stands), nil)
ReadsPartsTo-append s fault more p (part ∷ []) form letters same
    (inr (read, left, is, reads, joined)) = absurd reads.0
ReadsPartsTo-append s fault more p (part ∷ next ∷ parts) form letters same
    (inr (read, left, is, reads, joined)) =
    let others : (cut_at_headings form).1 ≡ next ∷ parts = cc in
    let done = first_done form (λ nil. cc) in
    let rest =
    ReadsPartsTo-append s fault more (next_part_start p read.parts part) (next ∷ parts) done.rest left
    (sym done.others ∙ others) reads in
    let first : (cut_at_headings form).0 ≡ part = cc in
    let same : parts_of (form ++ more) ≡ part ∷ parts_of (done.rest ++ more) =
    as_parts (form ++ more) _ _ (done.grows more) ∙ ap (λ one. one ∷ parts_of (done.rest ++ more)) first in
    subst (λ ps. ReadsPartsTo s (IsPartFaultForGood s fault) p ps letters) (sym same)
    (inr (read, left, is, rest, joined))

-- a form that is refused for good is so with more bytes
pub stays_refused : (s : Day) (form more text : List ℕ) (fault : FormFault) → IsRefusedForGood s form text fault
    → IsRefusedForGood s (form ++ more) text fault
stays_refused s form more text fault (NoHeading none empty is) = grind (arith, NoHeading, append_assoc, none, empty)
stays_refused s form more text fault (AtPart (letters, reads, is)) =
    AtPart (letters, ReadsPartsTo-append s fault more first_part_start (parts_of form) form letters refl reads, is)

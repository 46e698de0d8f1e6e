-- What the reader of a form holds after one more byte, and its answer at the end.
pub use Rattle.kd_form.proofs.Prelude.{err_is, [], ◌≡◌, ◌≢◌, ◌⊎◌, inl, inr, ℕ, ◌+◌, ◌-◌, ◌≤◌, List, ◌∷◌, ◌++◌, length}
pub use Rattle.kd_form.proofs.Prelude.{take, refl, sym, ap, subst, ◌∙◌, append_assoc, length-append, Ok, Err, arith}
pub use Rattle.kd_form.proofs.Prelude.{codes, All, IsTrue, Option, Some, None, MatchOption, option_to_list, map-append}
pub use Rattle.kd_form.proofs.Prelude.{take-append_seam, cases_lt, cases_eq, append-nil, take_all, take-take}
pub use Rattle.kd_form.proofs.Prelude.{take-append-le, length-take, length-take-le, filter_map-append, All-nil}
pub use Rattle.kd_form.proofs.Prelude.{All-push, ArrayVec, is_text_byte, Day, line_of, IsFirstPart, FormFault, Heading}
pub use Rattle.kd_form.proofs.Prelude.{IsLineText, heading_words, letter_of_byte, letters_from, IsHeading}
pub use Rattle.kd_form.proofs.Prelude.{BeginsHeading, Result, HasFault, GoesOn, IsBodyAnswer, HasHeading, HasDueNumbers}
pub use Rattle.kd_form.proofs.Prelude.{IsContentAnswer, IsPartAnswer, IsHeadingAnswer, HoldsBody, IsBodyPlaintext}
pub use Rattle.kd_form.proofs.Prelude.{HasBegunHeading, HoldsPart, HoldsFormStage, IsAtPartStart, HoldsForm, PartOrder}
pub use Rattle.kd_form.proofs.Prelude.{plaintext_bytes, IsRefusedForGood, NoHeading, form_message, HasFaultForGood}
pub use Rattle.kd_form.proofs.Prelude.{IsMessageAnswer, HasReadSoFar, PartsProperty, ReadsPartsTo, IsFormReadTo}
pub use Rattle.kd_form.proofs.Prelude.{IsPartFaultForGood, IsAnswerAt, IsLastPart, AtPart, cut_at_headings, parts_of}
pub use Rattle.kd_form.proofs.Prelude.{PartStart, first_part_start, next_part_start, HasLastLineStart}
pub use Rattle.kd_form.proofs.Prelude.{current_part_start, plaintext_byte, space_letter, BadHeading, false≢true}
pub use Rattle.kd_form.proofs.Prelude.{All-take}
use Rattle.kd_form.specs.declared.receiving.body_reader.PartBody.{PartBody}
use Rattle.kd_form.specs.declared.receiving.form_reader.{FormReader.FormReader, FormStage.FormStage}
pub use Rattle.kd_form.proofs.Headings.{at_most, has_byte, begins_there, as_parts, BeginsHeading-digit, begins_more}
pub use Rattle.kd_form.proofs.Headings.{first_ends, first_more, may_begin, cut_at_headings-line, cut_at_headings-whole}
pub use Rattle.kd_form.proofs.Headings.{HasBegunHeading-snoc, not_begun, ended_heading, whole_line}
pub use Rattle.kd_form.proofs.Rules.{bad_behind, ThenNext-tested, ThenNext-stays, ThenNext-first}
use Rattle.kd_form.proofs.Lines.{letters_first, head_unbroken}
pub use Rattle.kd_form.proofs.OneText.{start_of, right_content, PartContent}
use Rattle.kd_form.proofs.OneText.{HasOneAnswer-content, read_or_refused, reads_meet, reads_then, IsAnswerAt-for_good}
use Rattle.kd_form.proofs.OneText.{stays_refused, refused_after}
use Rattle.kd_form.specs.declared.receiving.form_reader.FormStage.TheVariants as stages

-- -------- the body of a part, byte by byte

-- cutting a list to `n` items before appending more doesn't change the first `n` items of the result
pub take_kept : (n : ℕ) (xs ys : List ℕ) → take n (take n xs ++ ys) ≡ take n (xs ++ ys)
take_kept n xs ys = grind (arith, cases_lt, take-append-le, length-take, take-take, take_all)

letters_kept : (old body : List ℕ) (byte : ℕ) → old ≡ take 525 (letters_from None body)
    → take 525 (old ++ option_to_list (letter_of_byte None byte)) ≡ take 525 (letters_from None (body ++ byte ∷ []))
letters_kept old body byte kept =
    ap (λ l. take 525 (l ++ option_to_list (letter_of_byte None byte))) kept
    ∙ take_kept 525 (letters_from None body) (option_to_list (letter_of_byte None byte))
    ∙ ap (λ l. take 525 (letters_from None body ++ l))
    (sym (letters_first None byte [] ∙ append-nil (option_to_list (letter_of_byte None byte))))
    ∙ ap (take 525) (sym (filter_map-append (letter_of_byte None) body (byte ∷ [])))

-- ---- one more byte of a body

pub first_longer : {part line body : List ℕ} (byte : ℕ) → IsFirstPart 10 part line body
    → IsFirstPart 10 (part ++ byte ∷ []) line (body ++ byte ∷ [])
first_longer byte first = grind (arith, append_assoc)

-- one more byte makes the last line longer; an LF begins an empty line
tail_more : (line body first now : List ℕ) (byte : ℕ) → HasLastLineStart line body first → (byte ≡ 10 → now ≡ [])
    → (byte ≢ 10 → now ≡ take 6 (first ++ byte ∷ [])) → HasLastLineStart line (body ++ byte ∷ []) now
tail_more line body first now byte was ends longer = elim (cases_eq byte 10) [
  | inl is ↦ record {
    settled = body ++ byte ∷ [];
    tail = [];
    front = was.front ++ 10 ∷ was.tail;
    lines = sym (append-nil (body ++ byte ∷ []));
    broken =
        let one = append_assoc line (10 ∷ body) (byte ∷ []) in
        cc (one, append_assoc line (10 ∷ was.settled) was.tail, append_assoc was.front (10 ∷ []) was.tail);
    unbroken = All-nil (λ b. b ≢ 10);
    kept = ends is;
  }
  | inr other ↦ record {
    settled = was.settled;
    tail = was.tail ++ byte ∷ [];
    front = was.front;
    lines = ap (λ l. l ++ byte ∷ []) was.lines ∙ append_assoc was.settled was.tail (byte ∷ []);
    broken = was.broken;
    unbroken = All-push (λ b. b ≢ 10) was.tail byte was.unbroken other;
    kept = longer other ∙ ap (λ l. take 6 (l ++ byte ∷ [])) was.kept ∙ take_kept 6 was.tail (byte ∷ []);
  }
]

pub body_more : (s : Day) (b new : PartBody) (part body : List ℕ) (byte : ℕ) (letter : Option ℕ)
    → new.heading ≡ b.heading → letter ≡ letter_of_byte None byte → (b.letters.items ≡ take 525 b.letters.items
    → new.letters.items ≡ take 525 (b.letters.items ++ option_to_list letter))
    → (byte ≡ 10 → new.line.items ≡ []) → (byte ≢ 10 → new.line.items ≡ take 6 (b.line.items ++ byte ∷ []))
    → IsTrue (is_text_byte byte) → HoldsBody s b part body → HoldsBody s new (part ++ byte ∷ []) (body ++ byte ∷ [])
body_more s b new part body byte letter same told more ends longer allowed holds =
    record {
      line = holds.line;
      first = first_longer byte holds.first;
      text = subst (λ x. IsLineText holds.line (line_of (heading_words x))) (sym same) holds.text;
      is_heading = rw same holds.is_heading;
      last = tail_more holds.line body b.line.items new.line.items byte holds.last ends longer;
      allowed = All-push (λ b. IsTrue (is_text_byte b)) body byte holds.allowed allowed;
      kept =
          more (rw holds.kept (sym (take-take 525 525 (letters_from None body) (omega arith))))
          ∙ rw told (letters_kept b.letters.items body byte holds.kept);
    }

-- ---- the letters of a whole body

-- the kept letters without the last `others` are the body's letters, or both have more than 520
are_shown : (others : ℕ) (kept shown letters more : List ℕ) → others ≤ 4 → length more ≡ others
    → kept ≡ take 525 (letters ++ more)
    → shown ≡ take (length kept - others) kept → (shown ≡ letters) ⊎ ((521 ≤ length shown) × (521 ≤ length letters))
are_shown others kept shown letters more few size is cut = elim (cases_lt 525 (length (letters ++ more))) [
  | inl long ↦ inr (grind (arith, length-take-le 525 (letters ++ more), length-take {A = ℕ}, length-append {A = ℕ}))
  | inr short ↦ inl (grind (arith, take_all 525 (letters ++ more), take-append_seam letters, length-append letters))
]

pub IsBodyAnswer-kept : (s : Day) (h : Heading) (others : ℕ) (kept shown letters more : List ℕ)
    (v : Result (List ℕ) FormFault) → IsHeading s h
    → others ≤ 4 → length more ≡ others → kept ≡ take 525 (letters ++ more) → shown ≡ take (length kept - others) kept
    → IsBodyAnswer s h.part h shown v → IsBodyAnswer s h.part h letters v
IsBodyAnswer-kept s h others kept shown letters more v is few size kept_is cut told =
    elim (are_shown others kept shown letters more few size kept_is cut) [
      | inl same ↦ subst (λ ls. IsBodyAnswer s h.part h ls v) same told
      | inr long ↦ elim told [
        | HasFault fault first fault_is ↦
            HasFault fault ((λ _ counted. omega (arith, counted, long.1, at_most s h.letters is.letters)), first.1)
            fault_is
        | GoesOn _ counted next ↦ absurd (omega (arith, counted, long.0, at_most s h.letters is.letters))
      ]
    ]

-- -------- a whole part

body_heading : {s : Day} {b : PartBody} {part body : List ℕ} → HoldsBody s b part body
    → HasHeading s part b.heading body
body_heading holds = grind arith

-- `P` holds of the body's letters if the last `others` letters read belong to the next heading
abbrev pub HoldsWithMore : PartBody → ℕ → (List ℕ → Type 0) → Type 0
HoldsWithMore b others P =
    (letters more : List ℕ) → length more ≡ others → b.letters.items ≡ take 525 (letters ++ more) → P letters

-- the part with this number is complete; after the letters of its body, the reader keeps `more`, letters of the
-- next heading
pub record IsNext (s : Day) (b : PartBody) (number : ℕ) (expected : Option ℕ) (part body more : List ℕ) : Type 0 where
  pub has : HasHeading s part b.heading body
  pub due : HasDueNumbers number expected b.heading
  pub allowed : All (λ b. IsTrue (is_text_byte b)) body
  pub kept : b.letters.items ≡ take 525 (letters_from None body ++ more)

module _ {s : Day} {b : PartBody} {number : ℕ} {expected : Option ℕ} {part body more : List ℕ}
    (next : IsNext s b number expected part body more) where
  next_body : (v : Result (List ℕ) FormFault) → IsBodyAnswer s b.heading.part b.heading (letters_from None body) v
      → IsBodyAnswer s number b.heading (letters_from None body) v
  next_body v = subst (λ n. IsBodyAnswer s n b.heading (letters_from None body) v) next.due.numbered

  next_read : (made : List ℕ) → HoldsWithMore b (length more) (λ letters. IsBodyPlaintext s b.heading letters made)
      → (one : List ℕ) × ((start : ℕ) → IsPartAnswer s (start_of number expected start) part
      (Ok (record { parts = b.heading.parts; letters = one }))) × (made ≡ plaintext_bytes s one)
  next_read made told =
      let (one, read, is) = told (letters_from None body) more refl next.kept in (
        one,
        λ start. GoesOn _ (right_content start next.has next.due next.allowed)
            (GoesOn one (next_body (Ok one) read) refl),
        is,
      )

  pub next_refused : (fault : FormFault)
      → HoldsWithMore b (length more) (λ letters. IsBodyAnswer s b.heading.part b.heading letters (Err fault))
      → (start : ℕ) → IsPartAnswer s (start_of number expected start) part (Err fault)
  next_refused fault told start =
      let found = told (letters_from None body) more refl next.kept in
      GoesOn _ (right_content start next.has next.due next.allowed) (HasFault fault (next_body (Err fault) found) refl)

-- ---- the heading of a part

-- a missing or wrong heading is a fault of the part's content
pub heading_refused : {s : Day} {number : ℕ} {expected : Option ℕ} {part : List ℕ} {fault : FormFault} (start : ℕ)
    (found : Option Heading)
    → MatchOption found ((h : Heading) (body : List ℕ) → ¬ (HasHeading s part h body)) (λ h. HasHeading s part h [])
    → IsHeadingAnswer number expected found (Err fault)
    → IsContentAnswer s (start_of number expected start) part (Err fault)
heading_refused start None told = ThenNext-stays (λ h. record { heading = h; body = [] })
    (λ (none, is). ((λ (x : PartContent) has. told x.heading x.body has), is)) (λ h is found. absurd (cc))
heading_refused start (Some h) told = ThenNext-stays (λ h. record { heading = h; body = [] })
    (λ (none, is). absurd (none h refl))
    (λ x is found. let this : x ≡ h = cc in (rw this told, ThenNext-first (λ wrong. wrong) found))

-- -------- the reader of a form, byte by byte

has_begun : (s : Day) (stage : FormStage) (number : ℕ) (expected : Option ℕ) {part : List ℕ}
    → HoldsFormStage s stage number expected part → HasBegunHeading part
has_begun s (stages.Heading line) number expected held = held.0.begins
has_begun s (stages.Body b) number expected held = inr (begins_there s _ b.heading held.body (body_heading held.holds))

module _ {s : Day} {number : ℕ} {expected : Option ℕ} {part : List ℕ} where
  HoldsFormStage-not_early : {line body : List ℕ} {fault : FormFault} (start : ℕ) (stage : FormStage)
      → HoldsFormStage s stage number expected part → IsFirstPart 10 part line body
      → ¬ (IsContentAnswer s (start_of number expected start) part (Err fault))
  HoldsFormStage-not_early {line} {body} start (stages.Heading shown) held broken found =
      has_byte 10 line body (rw broken.joined at held.0.unbroken)
  HoldsFormStage-not_early start (stages.Body b) held broken found =
      let so_far = right_content start (body_heading held.holds) held.due held.holds.allowed in
      let clash = HasOneAnswer-content s (start_of number expected start) part (Ok _) (Err _) so_far found in cc

-- ---- the form that the reader holds

module _ {s : Day} {r : FormReader} {form text : List ℕ} (h : HoldsForm s r form text) where
  abbrev pub here : PartStart
  here = current_part_start r h.front

  -- if the last part, with more bytes, is read until the parts left satisfy `B`, so is the whole form with these
  -- bytes
  pub IsFormReadTo-more : (B : PartsProperty) (more made letters : List ℕ) (parts : List (List ℕ))
      → parts_of (h.last ++ more) ≡ parts
      → ReadsPartsTo s B here parts letters → made ≡ plaintext_bytes s letters
      → IsFormReadTo s B (form ++ more) (text ++ made)
  IsFormReadTo-more B more made letters parts are reads given = (
    h.letters ++ letters,
    grind (arith, h.cuts more, reads_then s here B first_part_start h.parts parts h.letters letters),
    cc (h.is, given, map-append (plaintext_byte (space_letter s)) h.letters letters),
  )

  pub IsFormReadTo-last : (B : PartsProperty) (letters made : List ℕ) → ReadsPartsTo s B here (h.last ∷ []) letters
      → made ≡ plaintext_bytes s letters → IsFormReadTo s B form (text ++ made)
  IsFormReadTo-last B letters made reads given = subst (λ f. IsFormReadTo s B f (text ++ made)) (append-nil form)
      (IsFormReadTo-more B [] made letters (h.last ∷ [])
      (cc (cut_at_headings-whole h.last h.alone, h.alone, append-nil h.last)) reads given)

  abbrev IsHere : PartsProperty
  IsHere p parts = (p ≡ here) × (parts ≡ h.last ∷ [])

  -- no fault stands at the part that the reader holds
  never_refused : (fault : FormFault) (p : PartStart) (parts : List (List ℕ)) → IsHere p parts
      → ¬ (IsPartFaultForGood s fault p parts)
  never_refused fault p parts (there, alone) stands =
      let ((line, body, broken), early) = rw (there, alone) at stands in
      HoldsFormStage-not_early (length h.front) r.stage h.stage broken early

  unrefused : (before : List ℕ) (fault : FormFault) → ¬ (IsRefusedForGood s form before fault)
  unrefused before fault (NoHeading none empty is) = elim h.begun [
    | inl nil ↦
        let (more, begun) = may_begin h.last (has_begun s r.stage r.number r.expected h.stage) in
        none more (subst (λ l. BeginsHeading (l ++ more)) (sym (rw nil at h.joined)) begun)
    | inr begun ↦
        none [] (subst BeginsHeading (sym h.joined ∙ sym (append-nil form)) (begins_more h.front h.last begun))
  ]
  unrefused before fault (AtPart (others, stands, so)) =
      let (letters, reads, is) = IsFormReadTo-last IsHere [] [] (inl ((refl, refl), refl)) refl in
      (reads_meet s IsHere (IsPartFaultForGood s fault) ⊥
      (λ p part parts read more held is rest. let none : parts ≡ [] = cc in (rw none at rest).0)
      (λ p part parts read more stands is rest.
      read_or_refused s p part read _ (IsAnswerAt-for_good s fault p (part ∷ parts) stands).1 is)
      (never_refused fault) first_part_start (parts_of form) letters others reads stands).1

  pub HasReadSoFar-form : HasReadSoFar (form_message s) (HoldsForm s r) form text
  HasReadSoFar-form = record {
    is = h;
    open_yet = record {
      unrefused = λ fault found. unrefused found.0 fault found.1;
      written =
          subst (IsFormReadTo s IsLastPart form) (append-nil text)
          (IsFormReadTo-last IsLastPart [] [] (inl ((h.last, refl), refl)) refl);
    };
  }

pub IsRefusedForGood-HasFaultForGood : {s : Day} {form text : List ℕ} {fault : FormFault}
    → IsRefusedForGood s form text fault → HasFaultForGood (form_message s) form text fault
IsRefusedForGood-HasFaultForGood {s} {form} {text} {fault} found = record {
  stands = λ more. (text, stays_refused s form more text fault found);
  refused = λ more. (text, refused_after s (form ++ more) text fault (stays_refused s form more text fault found));
  written = λ more. refused_after s (form ++ more) text fault (stays_refused s form more text fault found);
}

-- the byte is a digit after the five bytes `PART `
abbrev pub IsHeadingDigit : PartBody → ℕ → Type 0
IsHeadingDigit b byte = (b.line.items ≡ codes "PART ") × (48 ≤ byte) × (byte ≤ 57)

-- the part, divided at the LF before its last line
by_lines : {s : Day} {b : PartBody} {part body : List ℕ} (holds : HoldsBody s b part body)
    → part ≡ holds.last.front ++ 10 ∷ holds.last.tail
by_lines holds =
    let tail = holds.last in
    let one = append_assoc holds.line (10 ∷ tail.settled) tail.tail in
    let other = append_assoc tail.front (10 ∷ []) tail.tail in
    cc (holds.first.joined, tail.lines, tail.broken, one, other)

-- a byte that isn't the digit of the next heading belongs to the part
pub goes_on : {s : Day} {b : PartBody} {part body : List ℕ} (byte : ℕ) → HoldsBody s b part body
    → (cut_at_headings part).1 ≡ [] → ¬ (IsHeadingDigit b byte)
    → cut_at_headings (part ++ byte ∷ []) ≡ (part ++ byte ∷ [], [])
goes_on byte holds none not =
    grind (arith, by_lines holds, append_assoc, first_more holds.last.front holds.last.tail byte)

-- the part without its last five bytes `PART ` is complete, and the letters PART are kept
record EndsInHeading {s : Day} {b : PartBody} {number : ℕ} {expected : Option ℕ} {part : List ℕ}
    (mine : HoldsPart s b number expected part) : Type 0 where
  split : part ≡ mine.holds.last.front ++ 10 ∷ codes "PART "
  next : IsNext s b number expected (mine.holds.last.front ++ 10 ∷ []) mine.holds.last.settled
      (letters_from None (codes "PART "))

EndsInHeading-holds : {s : Day} {b : PartBody} {number : ℕ} {expected : Option ℕ} {part : List ℕ}
    (mine : HoldsPart s b number expected part) → b.line.items ≡ codes "PART " → EndsInHeading mine
EndsInHeading-holds {b = b} mine begun =
    let holds = mine.holds in
    let last = holds.last in
    let tail : last.tail ≡ codes "PART " =
    sym (whole_line 6 last.tail b.line.items last.kept (omega (arith, ap length begun))) ∙ begun in
    let lines : mine.body ≡ last.settled ++ codes "PART " = last.lines ∙ ap (λ l. last.settled ++ l) tail in
    record {
      split = by_lines holds ∙ ap (λ l. last.front ++ 10 ∷ l) tail;
      next = record {
        has = record {
          is_heading = holds.is_heading;
          first = inl (holds.line, record { joined = sym last.broken; without = holds.first.without }, holds.text);
        };
        due = mine.due;
        allowed = subst (All (λ b. IsTrue (is_text_byte b))) (take-append_seam last.settled (codes "PART "))
            (All-take (λ b. IsTrue (is_text_byte b)) (length last.settled) _ (rw lines at holds.allowed));
        kept = holds.kept ∙ ap (λ l. take 525 (letters_from None l)) lines
            ∙ ap (take 525) (filter_map-append (letter_of_byte None) last.settled (codes "PART "));
      };
    }

-- ---- one more byte of a form that is held

-- the reader at `stage`, after one more byte
abbrev pub reader_after : FormReader → FormStage → FormReader
reader_after r stage = record r { read = r.read + 1; stage = stage }

module _ {s : Day} {r : FormReader} {form text : List ℕ} (h : HoldsForm s r form text) where
  pub in_stage : {stage : FormStage} → r.stage ≡ stage → HoldsFormStage s stage r.number r.expected h.last
  in_stage is = subst (λ st. HoldsFormStage s st r.number r.expected h.last) is h.stage

  -- after one more byte of the current part, the reader holds the form with this byte
  pub HoldsForm-byte : (stage : FormStage) (made : List ℕ) (byte : ℕ) → made ≡ []
      → cut_at_headings (h.last ++ byte ∷ []) ≡ (h.last ++ byte ∷ [], [])
      → HoldsFormStage s stage r.number r.expected (h.last ++ byte ∷ [])
      → HoldsForm s (reader_after r stage) (form ++ byte ∷ []) (text ++ made)
  HoldsForm-byte stage made byte none one there = grind (arith, append_assoc, append-nil, length-append)

  -- if a fault stands at the last part once more bytes have come, the form with these bytes is refused
  pub HasFaultForGood-last_part : {fault : FormFault} {part : List ℕ} {others : List (List ℕ)} (more : List ℕ)
      → cut_at_headings (h.last ++ more) ≡ (part, others) → IsPartFaultForGood s fault (here h) (part ∷ others)
      → HasFaultForGood (form_message s) (form ++ more) text fault
  HasFaultForGood-last_part {fault} {part} {others} more are stands =
      let (letters, reads, is) =
      IsFormReadTo-more h (IsPartFaultForGood s fault) more [] [] (part ∷ others)
      (as_parts (h.last ++ more) part others are) (inl (stands, refl)) refl in
      IsRefusedForGood-HasFaultForGood (AtPart (letters, reads, sym (append-nil text) ∙ is))

  -- ---- the part ends, as a digit comes after the five bytes `PART `

  module _ {b : PartBody} {byte : ℕ} (stage : r.stage ≡ stages.Body b) (digit : IsHeadingDigit b byte) where
    abbrev there : HoldsPart s b r.number r.expected h.last
    there = in_stage stage

    abbrev ended : EndsInHeading there
    ended = EndsInHeading-holds there digit.0

    abbrev front : List ℕ
    front = there.holds.last.front

    abbrev whole : List ℕ
    whole = front ++ 10 ∷ []

    pub four_letters : 4 ≤ length b.letters.items
    four_letters = omega (arith, ap length ended.next.kept, length-take {A = ℕ}, length-append {A = ℕ})

    cut_off : (more : List ℕ) → cut_at_headings (h.last ++ byte ∷ more)
        ≡ (whole, parts_of (codes "PART " ++ byte ∷ more))
    cut_off more = grind (arith, ended.split, append_assoc, first_ends front more byte)

    pub HasFaultForGood-part : {fault : FormFault}
        → HoldsWithMore b 4 (λ letters. IsBodyAnswer s b.heading.part b.heading letters (Err fault))
        → HasFaultForGood (form_message s) (form ++ byte ∷ []) text fault
    HasFaultForGood-part {fault} told =
        HasFaultForGood-last_part (byte ∷ []) (cut_off []) (next_refused ended.next fault told (length h.front))

    pub HoldsForm-next_part : {made : List ℕ} {line : ArrayVec ℕ}
        → HoldsWithMore b 4 (λ letters. IsBodyPlaintext s b.heading letters made)
        → line.items ≡ codes "PART " ++ byte ∷ [] → HoldsForm s (record {
          read = r.read + 1;
          number = r.number + 1;
          expected = Some b.heading.parts;
          stage = stages.Heading line;
        }) (form ++ byte ∷ []) (text ++ made)
    HoldsForm-next_part told is_head =
        let heads : List ℕ = codes "PART " ++ byte ∷ [] in
        let has = ended.next.has in
        let (one, read, given) = next_read ended.next _ told in
        record {
          front = h.front ++ whole;
          last = heads;
          parts = h.parts ++ whole ∷ [];
          letters = h.letters ++ one;
          joined = grind (arith, h.joined, ended.split, append_assoc);
          cuts = grind (arith, append_assoc, as_parts, cut_off);
          alone = ap (λ c. c.1) (cut_at_headings-line (codes "PART ") byte head_unbroken);
          begun = inr (grind (arith, h.begun, begins_there s whole b.heading _ has, begins_more h.front whole));
          first = λ same. absurd (omega (arith, same, there.due.numbered, there.holds.is_heading.number.first));
          read = reads_then s (here h) (IsAtPartStart
              (start_of (r.number + 1) (Some b.heading.parts) (length (h.front ++ whole))))
              first_part_start h.parts (whole ∷ []) h.letters one h.read (inr (
                record { parts = b.heading.parts; letters = one },
                [],
                read (length h.front),
                ((ap (start_of (r.number + 1) (Some b.heading.parts)) (sym (length-append h.front whole)), refl), refl),
                sym (append-nil one),
              ));
          is = cc (h.is, given, map-append (plaintext_byte (space_letter s)) h.letters one);
          counted = omega (arith, h.counted, length-append form (byte ∷ []));
          stage = grind (arith, All-push, head_unbroken, BeginsHeading-digit);
        }

  -- ---- the end

  pub IsMessageAnswer-part_fault : {made : List ℕ} {fault : FormFault}
      → ((start : ℕ) → IsPartAnswer s (start_of r.number r.expected start) h.last (Err fault)) → made ≡ []
      → IsMessageAnswer (form_message s) form (text ++ made) (Err fault)
  IsMessageAnswer-part_fault {made} {fault} found none =
      let ends = IsFormReadTo-last h (IsAnswerAt s (Err fault)) [] made
      (inl ((fault, found (length h.front), refl), refl)) none in
      ((text ++ made, ends), ends)

  module _ {b : PartBody} (stage : r.stage ≡ stages.Body b) where
    abbrev mine : HoldsPart s b r.number r.expected h.last
    mine = in_stage stage

    pub next_last : IsNext s b r.number r.expected h.last mine.body []
    next_last = grind (arith, body_heading, append-nil, letters_from)

    module _ {given : List ℕ} (told : HoldsWithMore b 0 (λ letters. IsBodyPlaintext s b.heading letters given)) where
      -- at the end of the form, the last part is read too; if `B` then holds, the whole form is read up to there
      IsFormReadTo-end : (B : PartsProperty) → B (next_part_start (here h) b.heading.parts h.last) []
          → IsFormReadTo s B form (text ++ given)
      IsFormReadTo-end B so =
          let (one, read, is) = next_read next_last given told in
          IsFormReadTo-last h B one given (inr (
            record { parts = b.heading.parts; letters = one },
            [],
            read (length h.front),
            (so, refl),
            sym (append-nil one),
          )) is

      pub IsMessageAnswer-text : {made : List ℕ} → b.heading.parts ≡ r.number → made ≡ given ++ 10 ∷ []
          → IsMessageAnswer (form_message s) form (text ++ made) (Ok tt)
      IsMessageAnswer-text same is =
          let read = IsFormReadTo-end (IsAnswerAt s (Ok tt)) (b.heading.parts, refl, ap (λ n. n + 1) (sym same)) in
          (text ++ given, read, ap (λ l. text ++ l) is ∙ sym (append_assoc text given (10 ∷ [])))

      pub IsMessageAnswer-parts_missing : b.heading.parts ≢ r.number
          → IsMessageAnswer (form_message s) form (text ++ given) (Err PartOrder)
      IsMessageAnswer-parts_missing other =
          let ends = IsFormReadTo-end (IsAnswerAt s (Err PartOrder))
          (b.heading.parts, refl, ((λ _ same. other (omega arith)), refl)) in
          ((text ++ given, ends), ends)

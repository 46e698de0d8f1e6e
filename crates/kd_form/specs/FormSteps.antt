-- The state of `FormReader` after it has read some bytes of a form. No public contract cites this file.
use Rattle.std.specs.Prelude.{codes, ◌≡◌, ◌≢◌, ◌⊎◌, ℕ, ◌<◌, ◌≤◌, List, [], ◌∷◌, ◌++◌, length, take, slice_index, All}
use Rattle.std.specs.Prelude.{IsTrue, Option, Some, None, Result, Ok, Err, MatchResult, MatchOption}
use Rattle.kd_tables.specs.Text.{is_text_byte}
use Rattle.kd_state.specs.AnswerRules.{AnswerRule, ◌>>=◌, Yields, Finds, Demands}
use Rattle.kd_state.specs.SheetDay.{Day}
use Rattle.kd_tables.specs.LineWords.{line_of, IsFirstPart, IsWithout}
use Rattle.kd_form.specs.declared.fault.FormFault.{FormFault}
use Rattle.kd_form.specs.declared.fault.FormFault.TheVariants.{BadHeading, PartOrder}
use Rattle.kd_form.specs.declared.heading.Heading.{Heading}
use Rattle.kd_form.specs.declared.receiving.form_reader.FormReader.{FormReader}
use Rattle.kd_form.specs.declared.receiving.form_reader.FormStage.{FormStage}
use Rattle.kd_form.specs.declared.receiving.form_reader.FormStage.TheVariants as stages
use Rattle.kd_form.specs.declared.receiving.body_reader.PartBody.{PartBody}
use Rattle.kd_form.specs.Part.{heading_words}
use Rattle.kd_form.specs.Sending.{letters_from}
use Rattle.kd_form.specs.FormParts.{BeginsHeading, IsHeading, IsLineText, cut_at_headings, parts_of}
use Rattle.kd_form.specs.PartReading.{PartStart, HasHeading, HasDueNumbers, IsBodyAnswer}
use Rattle.kd_form.specs.FormText.{PartsProperty, ReadsPartsTo, first_part_start, plaintext_bytes}

-- ---- The words of a heading line.

-- `found` is the valid heading with the words `words`, or `None` if no valid heading has these words.
abbrev pub AreHeadingWords : Day → List (List ℕ) → Option Heading → Type 0
AreHeadingWords s words found =
    MatchOption found ((h : Heading) → IsHeading s h → heading_words h ≢ words)
    (λ h. IsHeading s h × (heading_words h ≡ words))

-- `letters` are at most four letters, as numbers below 26.
pub record AreFewLetters (letters : List ℕ) : Type 0 where
  pub few : length letters ≤ 4
  pub within : All (λ letter. letter < 26) letters

-- ---- What the reader keeps of the part that it is reading.

-- A heading line can have the byte `byte` at place `place`, counted from 0. Places 0 to 5 have `PART ` and a digit, and
-- later places can have any byte.
abbrev pub FitsHeadingAt : ℕ → ℕ → Type 0
FitsHeadingAt place byte = (place < 5 → byte ≡ slice_index (codes "PART ") place)
    × (place ≡ 5 → (48 ≤ byte) × (byte ≤ 57))

-- `bytes` begin with `PART ` and a digit, or they are a prefix of `PART `.
abbrev pub HasBegunHeading : List ℕ → Type 0
HasBegunHeading bytes = ((count : ℕ) × (count ≤ 5) × (bytes ≡ take count (codes "PART "))) ⊎ BeginsHeading bytes

-- `part` is the beginning of a heading line, without LF. `held` has the first 64 bytes of `part`, or all bytes if there
-- are fewer.
pub record HoldsLine (held part : List ℕ) : Type 0 where
  pub kept : held ≡ take 64 part
  pub unbroken : IsWithout 10 part
  pub begins : HasBegunHeading part

-- `body` comes directly after the line `line`. `first` has the first six bytes of the last line of `body`, or all bytes
-- of this line if there are fewer.
pub record HasLastLineStart (line body first : List ℕ) : Type 0 where
  pub settled : List ℕ
  pub tail : List ℕ
  pub front : List ℕ
  pub lines : body ≡ settled ++ tail
  pub broken : line ++ 10 ∷ settled ≡ front ++ 10 ∷ []
  pub unbroken : IsWithout 10 tail
  pub kept : first ≡ take 6 tail

-- `part` is a heading line and then `body`. In `b`, the reader keeps the heading, and the first 525 letters of `body`.
pub record HoldsBody (s : Day) (b : PartBody) (part body : List ℕ) : Type 0 where
  pub line : List ℕ
  pub first : IsFirstPart 10 part line body
  pub text : IsLineText line (line_of (heading_words b.heading))
  pub is_heading : IsHeading s b.heading
  pub last : HasLastLineStart line body b.line.items
  pub allowed : All (λ b. IsTrue (is_text_byte b)) body
  pub kept : b.letters.items ≡ take 525 (letters_from None body)

-- In `b`, the reader keeps the heading and the first letters of the body of `part`. The heading's part number is
-- `number`. If `expected` isn't `None`, the heading says that the form has `expected` parts.
pub record HoldsPart (s : Day) (b : PartBody) (number : ℕ) (expected : Option ℕ) (part : List ℕ) : Type 0 where
  pub body : List ℕ
  pub holds : HoldsBody s b part body
  pub due : HasDueNumbers number expected b.heading

-- The reader keeps either the beginning of a part's heading line, or the heading and the first letters of the body.
abbrev pub HoldsFormStage : Day → FormStage → ℕ → Option ℕ → List ℕ → Type 0
HoldsFormStage s (stages.Heading line) number expected part = HoldsLine line.items part × (length part < 6 → number ≡ 1)
HoldsFormStage s (stages.Body b) number expected part = HoldsPart s b number expected part

-- A body with the heading `h` and the letters `letters` is deciphered without a fault. The bytes `made` are the body's
-- text.
abbrev pub IsBodyPlaintext : Day → Heading → List ℕ → List ℕ → Type 0
IsBodyPlaintext s h letters made = (text : List ℕ) × IsBodyAnswer s h.part h letters (Ok text)
    × (made ≡ plaintext_bytes s text)

-- The result of deciphering the letters that the reader keeps in `b`: the text `output`, or a fault. The last `others`
-- letters are left out, because they belong to the next heading line.
abbrev pub IsDecipherAnswer : Day → PartBody → ℕ → List ℕ → Result (Unit {0}) FormFault → Type 0
IsDecipherAnswer s b others output answer =
    (letters more : List ℕ) → length more ≡ others → b.letters.items ≡ take 525 (letters ++ more)
    → MatchResult answer
    (λ _. IsBodyPlaintext s b.heading letters output)
    (λ fault. IsBodyAnswer s b.heading.part b.heading letters (Err fault))

-- Either `part` ends with its heading line, and `found` is the heading in this line. Or `part` has no heading, and
-- `found` is `None`.
abbrev pub IsOpenHeading : Day → List ℕ → Option Heading → Type 0
IsOpenHeading s part found =
    MatchOption found ((h : Heading) (body : List ℕ) → ¬ (HasHeading s part h body)) (λ h. HasHeading s part h [])

-- The result of testing the heading `found`: the heading, or one of two faults.
-- - `BadHeading`: `found` is `None`.
-- - `PartOrder`: the part number, or the number of parts, isn't the expected one.
abbrev pub IsHeadingAnswer : ℕ → Option ℕ → Option Heading → AnswerRule FormFault Heading
IsHeadingAnswer number expected found = do
  heading ← Finds (λ heading. found ≡ Some heading) (BadHeading number)
  _ ← Demands (HasDueNumbers number expected heading) PartOrder
  Yields heading

-- ---- The whole form, as far as it has been read.

-- the start of the part that the reader `r` is reading; `front` are the form's bytes before this part
abbrev pub current_part_start : FormReader → List ℕ → PartStart
current_part_start r front = record { number = r.number; expected = r.expected; bytes_before = length front }

-- All parts have been read. A further part would start at `q`.
abbrev pub IsAtPartStart : PartStart → PartsProperty
IsAtPartStart q p parts = (p ≡ q) × (parts ≡ [])

-- The reader `r` has read the bytes `form`. It keeps the last part, and has put out `text`, the texts of all parts
-- before the last. Further bytes don't change the parts before the last.
pub record HoldsForm (s : Day) (r : FormReader) (form text : List ℕ) : Type 0 where
  pub front : List ℕ
  pub last : List ℕ
  pub parts : List (List ℕ)
  pub letters : List ℕ
  pub joined : form ≡ front ++ last
  pub cuts : (more : List ℕ) → parts_of (form ++ more) ≡ parts ++ parts_of (last ++ more)
  pub alone : (cut_at_headings last).1 ≡ []
  pub begun : (front ≡ []) ⊎ BeginsHeading front
  pub first : r.number ≡ 1 → (front ≡ []) × (letters ≡ [])
  pub read : ReadsPartsTo s (IsAtPartStart (current_part_start r front)) first_part_start parts letters
  pub is : text ≡ plaintext_bytes s letters
  pub counted : r.read ≡ length form
  pub stage : HoldsFormStage s r.stage r.number r.expected last

-- How a form is read, part by part. Parts are counted from 1.
-- Code: `FormReader` keeps only the part that it is reading.
-- Test: long_texts_are_sent_and_received
use Rattle.std.specs.Prelude.{◌≡◌, ◌⊎◌, ℕ, ◌+◌, ◌==◌, List, [], ◌∷◌, ◌++◌, length, map, Option, Some, None}
use Rattle.std.specs.Prelude.{if◌then◌else◌, Result, Ok, Err}
use Rattle.kd_state.specs.AnswerRules.{AnswerRule, Demands}
use Rattle.kd_state.specs.SheetDay.{Day, Rotor, Pin}
use Rattle.kd_tables.specs.LineWords.{IsFirstPart}
use Rattle.kd_form.specs.declared.fault.FormFault.{FormFault}
use Rattle.kd_form.specs.declared.fault.FormFault.TheVariants.{BadHeading, PartOrder}
use Rattle.kd_form.specs.declared.keys.Keys.{Keys}
use Rattle.kd_form.specs.PartMaking.{fill_last_group}
use Rattle.kd_form.specs.Streams.{Message}
use Rattle.kd_form.specs.Order.{IsOrder}
use Rattle.kd_form.specs.Sending.{space_letter, text_letters}
use Rattle.kd_form.specs.FormParts.{BeginsHeading, parts_of}
use Rattle.kd_form.specs.PartReading.{PartStart, ReadPart, IsContentAnswer, IsPartAnswer}

-- the start of the first part
abbrev pub first_part_start : PartStart
first_part_start = record { number = 1; expected = None; bytes_before = 0 }

-- the start of the part after `part`. The part `part` starts at `p`, and its heading says that the form has `count`
-- parts.
abbrev pub next_part_start : PartStart → ℕ → List ℕ → PartStart
next_part_start p count part = record
    { number = p.number + 1; expected = Some count; bytes_before = p.bytes_before + length part }

-- a condition on the unread parts of a form: on the start of the first one, and on the bytes of each. For example,
-- `IsLastPart` says that exactly one part is unread.
abbrev pub PartsProperty : Type 1
PartsProperty = PartStart → List (List ℕ) → Type 0

-- Reading began at `p`. None, some or all of the parts were read, in order and without a fault. `letters` are their
-- deciphered letters. `Holds` is true for the parts that are left.
abbrev pub ReadsPartsTo : Day → PartsProperty → PartStart → List (List ℕ) → List ℕ → Type 0
ReadsPartsTo s Holds p [] letters = Holds p [] × (letters ≡ [])
ReadsPartsTo s Holds p (part ∷ parts) letters =
    (Holds p (part ∷ parts) × (letters ≡ []))
    ⊎ ((read : ReadPart) × (more : List ℕ) × IsPartAnswer s p part (Ok read)
    × ReadsPartsTo s Holds (next_part_start p read.parts part) parts more × (letters ≡ read.letters ++ more))

-- ---- The text of a form.
-- Test: tests/cases/desk-messages.toml

-- the byte for a letter: a space if the letter is `for_space`, otherwise the capital letter
abbrev pub plaintext_byte : Option ℕ → ℕ → ℕ
plaintext_byte None letter = letter + 65
plaintext_byte (Some for_space) letter = if letter == for_space then 32 else letter + 65

-- the bytes for letters: capital letters; on the Converter M-209, a space for each Z
abbrev pub plaintext_bytes : Day → List ℕ → List ℕ
plaintext_bytes s letters = map (plaintext_byte (space_letter s)) letters

-- the text of a form: the bytes of its letters, then LF
abbrev pub plaintext_with_end : Day → List ℕ → List ℕ
plaintext_with_end s letters = plaintext_bytes s letters ++ 10 ∷ []

-- The form's first parts were read in order and without a fault. `Holds` is true for the parts that are left. `text` is
-- the text of the parts that were read.
abbrev pub IsFormReadTo : Day → PartsProperty → List ℕ → List ℕ → Type 0
IsFormReadTo s Holds form text =
    (letters : List ℕ) × ReadsPartsTo s Holds first_part_start (parts_of form) letters
    × (text ≡ plaintext_bytes s letters)

-- ---- The result of reading a form: its text, or its first fault.
-- Test: tests/cases/desk-messages.toml, tests/refusals

-- The answer for a whole form whose parts before `p` have no fault:
-- - If parts are left, the first of them has a fault, and `answer` is this fault.
-- - If no parts are left: `answer` is success if the form has as many parts as its headings say, otherwise
--   `PartOrder`.
abbrev pub IsAnswerAt : Day → Result (Unit {0}) FormFault → PartsProperty
IsAnswerAt s answer p [] = (count : ℕ) × (p.expected ≡ Some count) × Demands (p.number ≡ count + 1) PartOrder answer
IsAnswerAt s answer p (part ∷ parts) = (fault : FormFault) × IsPartAnswer s p part (Err fault) × (answer ≡ Err fault)

-- `answer` is the result of reading a whole form: success, or the first fault. `text` is the text of the parts before
-- this fault, or of all parts if there is no fault.
abbrev pub IsAnswerAfter : Day → List ℕ → List ℕ → Result (Unit {0}) FormFault → Type 0
IsAnswerAfter s form text answer = IsFormReadTo s (IsAnswerAt s answer) form text

-- The result of reading a whole form: the text of all parts with LF at the end, or the form's first fault.
abbrev pub IsFormAnswer : Day → List ℕ → AnswerRule FormFault (List ℕ)
IsFormAnswer s form (Ok text) = (parts : List ℕ) × IsAnswerAfter s form parts (Ok tt) × (text ≡ parts ++ 10 ∷ [])
IsFormAnswer s form (Err fault) = (text : List ℕ) × IsAnswerAfter s form text (Err fault)

-- Reading `form` gives the text `text`.
abbrev pub IsTextOf : Day → List ℕ → List ℕ → Type 0
IsTextOf s form text = IsFormAnswer s form (Ok text)

-- `fault` is the form's first fault.
abbrev pub IsReceiveFault : Day → List ℕ → FormFault → Type 0
IsReceiveFault s form fault = IsFormAnswer s form (Err fault)

-- ---- Faults that no further bytes can change, and what is written before a fault.
-- Test: tests/cases/desk-messages.toml, tests/refusals

-- The first unread part begins at `p`, and has the fault `fault`, which no further bytes can change. If this part is
-- the last one so far, its heading line has ended with LF. The fault is then in the heading line, or in a byte of the
-- body.
abbrev pub IsPartFaultForGood : Day → FormFault → PartsProperty
IsPartFaultForGood s fault p [] = ⊥
IsPartFaultForGood s fault p (part ∷ []) =
    ((line body : List ℕ) × IsFirstPart 10 part line body) × IsContentAnswer s p part (Err fault)
IsPartFaultForGood s fault p (part ∷ next ∷ others) = IsPartAnswer s p part (Err fault)

-- The form has the fault `fault`, which no further bytes can change. `text` is the text of the parts before the fault.
-- - `NoHeading`: whatever bytes follow, the form doesn't begin with a heading line.
-- - `AtPart`: the fault is in one of the form's parts.
pub data IsRefusedForGood (s : Day) (form text : List ℕ) (fault : FormFault) : Type 0 where
  NoHeading : ((more : List ℕ) → ¬ (BeginsHeading (form ++ more))) → text ≡ [] → fault ≡ BadHeading 1
      → IsRefusedForGood s form text fault
  AtPart : IsFormReadTo s (IsPartFaultForGood s fault) form text → IsRefusedForGood s form text fault

-- Exactly one part is still unread: the form's last part.
abbrev pub IsLastPart : PartsProperty
IsLastPart p parts = (part : List ℕ) × (parts ≡ part ∷ [])

-- What a call has written after it has read the bytes of a form. With a fault, `text` is the text of the parts before
-- the fault. Without a fault so far, `text` is the text of all parts but the last.
abbrev pub IsTextBefore : Day → Option FormFault → List ℕ → List ℕ → Type 0
IsTextBefore s None form text = IsFormReadTo s IsLastPart form text
IsTextBefore s (Some fault) form text = IsAnswerAfter s form text (Err fault)

-- the rules for forms, as a `Message`: their faults, their texts, and what is written while a form is read
abbrev pub form_message : Day → Message
form_message s = record {
  stands = λ form fault. (text : List ℕ) × IsRefusedForGood s form text fault;
  refused = IsReceiveFault s;
  becomes = IsTextOf s;
  written_before = IsTextBefore s;
}

-- ---- The text that an order's form has to give back.

-- The letters that are sent for a text with the letters `letters`. On the Converter M-209, X is appended until the last
-- group of five is full.
abbrev pub sent_letters : Day → List ℕ → List ℕ
sent_letters (Rotor s) letters = letters
sent_letters (Pin s) letters = fill_last_group letters

-- `given` is the text that the receiver must get from the order's form.
pub record IsPlaintextOf (s : Day) (order given : List ℕ) : Type 0 where
  pub keys : List Keys
  pub head : List ℕ
  pub text : List ℕ
  pub is_order : IsOrder s order keys head text
  pub is : given ≡ plaintext_with_end s (sent_letters s (text_letters s text))

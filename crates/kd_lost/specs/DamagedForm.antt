-- How a damaged form is cut into parts, and how the parts are read. The first part begins with the form. Every later
-- part begins with a line that is taken for a heading.
-- Code: the form is cut part by part.
-- Test: tests/cases/curator-messages.toml
use Rattle.std.specs.Prelude.{◌≡◌, ℕ, ◌+◌, ◌<◌, ◌==◌, ◌&&◌, All, Bool, if◌then◌else◌, List, [], ◌∷◌}
use Rattle.std.specs.Prelude.{◌≢◌, ◌↔◌, IsTrue, length, IfOk, Option, None, Some, Result, Ok, Err}
use Rattle.std.specs.List.{flat_map}
use Rattle.kd_form.specs.FormText.{plaintext_byte}
use Rattle.kd_form.specs.declared.heading.Heading.{Heading}
use Rattle.kd_lost.specs.declared.damage.PartDamage.{PartDamage}
use Rattle.kd_lost.specs.declared.damaged_text.DamagedText.{DamagedText}
use Rattle.kd_state.specs.SheetDay.{Day}
use Rattle.kd_lost.specs.declared.form.DamagedFormFault.{DamagedFormFault}
use Rattle.kd_lost.specs.declared.form.DamagedFormFault.TheVariants as faults
use Rattle.kd_lost.specs.declared.part.{DamagedPart.{DamagedPart}, PartNumbers.{PartNumbers}}
use Rattle.kd_lost.specs.ByCount.{IsByCount}
use Rattle.kd_lost.specs.DamagedPart.{AreNumbersRead, IsDamagedHeading, IsDamagedTextAnswer, IsPartShown, IsPartTest, body_letters, body_of}
use Rattle.kd_lost.specs.DamagedPart.{first_line}
use Rattle.kd_lost.specs.HeadingLine.{heading_signs, is_heading_line, is_order}
use Rattle.kd_lost.specs.Lines.{heading_line, line_breaks}
use Rattle.kd_lost.specs.Lost.{meant_byte, received_letters}
use Rattle.kd_lost.specs.Repetitions.{completed_at, completed_or, copies_in}
use Rattle.kd_lost.specs.ShortGroup.{IsFirstShortGroup}
use Rattle.kd_lost.specs.ShortLine.{short_line}
use Rattle.kd_lost.specs.Tidy.{respaced, tidied}
use Rattle.kd_lost.specs.WrongSign.{IsFirstWrongSign}

-- ---- The parts of a form.

-- Whether `byte` ends a part, if `bytes` follow it: `byte` is an LF, and the line after it is taken for a heading.
abbrev pub ends_part : ℕ → List ℕ → Bool
ends_part byte bytes = byte == 10 && is_heading_line bytes

-- The first part of a damaged form, and the list of all other parts.
abbrev pub cut_at_heading_lines : List ℕ → List ℕ × List (List ℕ)
cut_at_heading_lines [] = ([], [])
cut_at_heading_lines (byte ∷ bytes) =
    if ends_part byte bytes then (byte ∷ [], (cut_at_heading_lines bytes).0 ∷ (cut_at_heading_lines bytes).1)
    else (byte ∷ (cut_at_heading_lines bytes).0, (cut_at_heading_lines bytes).1)

-- all parts of `bytes`; each part but the first begins with a line that is taken for a heading
abbrev pub parts_cut : List ℕ → List (List ℕ)
parts_cut bytes = (cut_at_heading_lines bytes).0 ∷ (cut_at_heading_lines bytes).1

-- all parts of a damaged form, without what `tidied` drops: a byte order mark, and lines before the first heading
abbrev pub form_parts : List ℕ → List (List ℕ)
form_parts form = parts_cut (tidied form)

-- a part, and the line of the form on which it begins
pub record PlacedPart : Type 0 where
  pub bytes : List ℕ
  pub line : ℕ

-- each part with the line on which it begins; the first part begins on line `line`
abbrev pub placed_from : ℕ → List (List ℕ) → List PlacedPart
placed_from line [] = []
placed_from line (part ∷ parts) = record { bytes = part; line = line } ∷ placed_from (line + line_breaks part) parts

-- all parts of a damaged form, each with the line on which it begins
abbrev pub damaged_parts_of : List ℕ → List PlacedPart
damaged_parts_of form = placed_from (heading_line form) (form_parts form)

-- ---- What is read of them.

-- `meant` is the part that is read in place of `part`. If the first line of `part` is a heading, `meant` is `part`
-- itself. Otherwise `meant` is `part` with single spaces between the words of the first line.
pub data IsMeant (s : Day) (part meant : List ℕ) : Type 0 where
  AsItStands : (h : Heading) → IsDamagedHeading s (first_line part) h → meant ≡ part → IsMeant s part meant
  Respaced : ((h : Heading) → ¬ (IsDamagedHeading s (first_line part) h)) → meant ≡ respaced part
      → IsMeant s part meant

-- `read` is the result of reading `part` as it stands. The fields `respaced` and `line` of `read` may have any
-- values. `given` are the numbers in the received heading.
pub record IsReadAs (s : Day) (part : List ℕ) (read : DamagedPart) : Type 0 where
  pub given : Option PartNumbers
  pub given_there : AreNumbersRead s (first_line part) given
  pub heading : read.heading.bytes ≡ heading_signs (first_line part)
  pub came : read.came ≡ length (received_letters (body_of part))
  pub body : read.body.items ≡ body_letters (body_of part)
  pub group : IsPartTest s given read.body.items read.group
  pub text : IsDamagedTextAnswer s part read.text
  pub shown : IfOk read.text (IsPartShown s part)
  pub by_count : IsByCount s part given read
  pub wrong_sign : IsFirstWrongSign (body_of part) read.wrong_sign
  pub short_line : read.short_line ≡ short_line (body_of part)
  pub short_group : IsFirstShortGroup (body_of part) read.short_group
  pub as_spelled : IsTrue read.as_spelled ↔ All (λ byte. meant_byte byte ≡ byte) part
  pub is_order : read.is_order ≡ is_order part

-- `read` is the result of reading `part`. If the first line of `part` isn't a heading, needless blanks in this line
-- are dropped first.
pub record IsReadOf (s : Day) (part : List ℕ) (read : DamagedPart) : Type 0 where
  pub meant : List ℕ
  pub is_meant : IsMeant s part meant
  pub as_meant : IsReadAs s meant read
  pub respaced : IsTrue read.respaced ↔ (meant ≢ part)

-- `read` is the result of reading `part`, with the line on which the part begins.
abbrev pub IsReadAt : Day → PlacedPart → DamagedPart → Type 0
IsReadAt s part read = IsReadOf s part.bytes read × (read.line ≡ part.line)

-- `reads` are the results of reading `parts`, in order.
abbrev pub AreReadOf : Day → List PlacedPart → List DamagedPart → Type 0
AreReadOf s [] [] = Unit {0}
AreReadOf s (part ∷ parts) (read ∷ reads) = IsReadAt s part read × AreReadOf s parts reads
AreReadOf s [] (read ∷ reads) = ⊥
AreReadOf s (part ∷ parts) [] = ⊥

-- ---- Parts that came several times.

-- `parts`, with letters from their copies in place of lost letters. The first of these parts has the index `index` in
-- the form.
abbrev pub completed_parts : List DamagedPart → ℕ → List PlacedPart → List PlacedPart
completed_parts copies index [] = []
completed_parts copies index (part ∷ parts) =
    record { bytes = completed_at copies index part.bytes; line = part.line } ∷ completed_parts copies (index + 1) parts

-- `reads` are the parts of `form`, each read with letters from its copies in place of lost letters.
abbrev pub AreReadWith : Day → List DamagedPart → List ℕ → List DamagedPart → Type 0
AreReadWith s copies form reads = AreReadOf s (completed_parts copies 0 (damaged_parts_of form)) reads

-- `parts` are the parts of the form. First, each part is read alone. If all parts are of one message, each part is read
-- again, with letters from its copies in place of lost letters. The second reading counts only if each part keeps its
-- numbers and its letters. Otherwise `parts` come from the first reading.
pub record AreFormParts (s : Day) (form : List ℕ) (parts : List DamagedPart) : Type 0 where
  pub alone : List DamagedPart
  pub read : AreReadOf s (damaged_parts_of form) alone
  pub again : List DamagedPart
  pub read_again : AreReadWith s (copies_in alone) form again
  pub chosen : parts ≡ completed_or alone again

-- ---- The letters of the texts.

-- the letters of a text; none if the text couldn't be read
abbrev pub letters_in : Result DamagedText PartDamage → List (Option ℕ)
letters_in (Ok shown) = shown.letters.items
letters_in (Err damage) = []

-- the letters of all texts, one text after another
abbrev pub shown_letters : List DamagedPart → List (Option ℕ)
shown_letters reads = flat_map (λ (read : DamagedPart). letters_in read.text) reads

-- The byte that is written for a letter of a text:
-- - for a lost letter: `?`
-- - for the letter `for_space`, if this isn't `None`: a space
-- - for any other letter: the capital letter
abbrev pub shown_byte : Option ℕ → Option ℕ → ℕ
shown_byte for_space None = 63
shown_byte for_space (Some letter) = plaintext_byte for_space letter

-- Why a form with the parts `parts` isn't read: it has more than 255 parts, or memory is short.
pub data IsFormFault (parts : List PlacedPart) (fault : DamagedFormFault) : Type 0 where
  TooMany : 255 < length parts → fault ≡ faults.TooManyParts → IsFormFault parts fault
  NoMemory : fault ≡ faults.NoMemory → IsFormFault parts fault

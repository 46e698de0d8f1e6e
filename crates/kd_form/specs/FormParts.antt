-- How a form is cut into parts. A part is a heading line and all lines before the next heading line.
-- Code: `FormReader` reads byte by byte. The first six bytes of a line show whether the line is a heading line.
-- Test: tests/cases/desk-messages.toml
use Rattle.std.specs.Prelude.{codes, ◌≡◌, ◌≢◌, ◌⊎◌, ℕ, ◌%◌, ◌≤◌, ◌==◌, ◌&&◌, nat_le, Bool, IsTrue, if◌then◌else◌}
use Rattle.std.specs.Prelude.{List, [], ◌∷◌, ◌++◌, take, slice_index}
use Rattle.std.specs.Str.{bytes_eq}
use Rattle.kd_state.specs.SheetDay.{Day, Rotor, Pin}
use Rattle.kd_tables.specs.LineWords.{IsFirstPart, IsWithout}
use Rattle.kd_form.specs.declared.heading.Heading.{Heading}
use Rattle.kd_form.specs.BodyCipher.{HasIndicator}

-- whether `bytes` begin as a heading line does: with `PART ` and a digit
unfoldable pub begins_heading : List ℕ → Bool
begins_heading bytes =
    bytes_eq (take 5 bytes) (codes "PART ") && (nat_le 48 (slice_index bytes 5) && nat_le (slice_index bytes 5) 57)

-- `bytes` begin with `PART ` and a digit, as a heading line does.
abbrev pub BeginsHeading : List ℕ → Type 0
BeginsHeading bytes = IsTrue (begins_heading bytes)

-- The parts of a form: the first part, and the list of the others. A part ends with the LF that comes directly before
-- the next heading line.
abbrev pub cut_at_headings : List ℕ → List ℕ × List (List ℕ)
cut_at_headings [] = ([], [])
cut_at_headings (byte ∷ bytes) =
    if byte == 10 && begins_heading bytes then (byte ∷ [], (cut_at_headings bytes).0 ∷ (cut_at_headings bytes).1)
    else (byte ∷ (cut_at_headings bytes).0, (cut_at_headings bytes).1)

-- all parts of a form
abbrev pub parts_of : List ℕ → List (List ℕ)
parts_of form = (cut_at_headings form).0 ∷ (cut_at_headings form).1

-- ---- Which headings are valid on a day, and the first line of a part.

-- A body may have `count` letters. On a rotor machine, a body has two fillers, a group of three letters, and 1 to 245
-- letters of text. On the Converter M-209, it has ten indicator letters at each end, and 1 to 100 groups of five
-- letters between them.
abbrev pub IsLetterCount : Day → ℕ → Type 0
IsLetterCount (Rotor s) count = (6 ≤ count) × (count ≤ 250)
IsLetterCount (Pin s) count = (25 ≤ count) × (count ≤ 520) × (count % 5 ≡ 0)

-- `part` is a part's number, from 1 to `parts`. `parts` is the number of all parts, at most 99.
pub record IsFraction (part parts : ℕ) : Type 0 where
  pub first : 1 ≤ part
  pub in_order : part ≤ parts
  pub few : parts ≤ 99

-- `h` is a valid heading for the model of the day `s`.
pub record IsHeading (s : Day) (h : Heading) : Type 0 where
  pub number : IsFraction h.part h.parts
  pub letters : IsLetterCount s h.letters
  pub indicator : HasIndicator s h.indicator

-- `text` is `line`, without the CR at the end of `line` if there is one.
pub data IsLineText (line text : List ℕ) : Type 0 where
  WithReturn : line ≡ text ++ 13 ∷ [] → IsLineText line text
  WithoutReturn : text ≡ line → ((front : List ℕ) → line ≢ front ++ 13 ∷ []) → IsLineText line text

-- `text` begins with the line `line` and a line end, and `rest` comes after this line end. If `text` has no LF, `line`
-- is all of `text`, and `rest` is empty.
abbrev pub HasFirstLine : List ℕ → List ℕ → List ℕ → Type 0
HasFirstLine text line rest =
    ((shown : List ℕ) × IsFirstPart 10 text shown rest × IsLineText shown line)
    ⊎ (IsWithout 10 text × (text ≡ line) × (rest ≡ []))

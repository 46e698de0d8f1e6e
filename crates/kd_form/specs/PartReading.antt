-- How one part of a form is read. The result is the letters of the part's text, or the part's first fault. Parts and
-- bytes are counted from 1.
-- Test: tests/cases/desk-messages.toml
use Rattle.std.specs.Prelude.{◌≡◌, ℕ, ◌+◌, ◌-◌, List, [], ◌∷◌, ◌++◌, length, Option, Some, None, MatchOption}
use Rattle.kd_state.specs.AnswerRules.{AnswerRule, ◌>>=◌, Yields, Finds, Demands}
use Rattle.kd_state.specs.SheetDay.{Day}
use Rattle.kd_tables.specs.LineWords.{line_of}
use Rattle.kd_form.specs.declared.fault.FormFault.{FormFault}
use Rattle.kd_form.specs.declared.fault.FormFault.TheVariants.{BadHeading, CountWrong, PartOrder}
use Rattle.kd_form.specs.declared.heading.Heading.{Heading}
use Rattle.kd_form.specs.Part.{heading_words}
use Rattle.kd_form.specs.Sending.{letters_from, IsBytesAnswer}
use Rattle.kd_form.specs.BodyCipher.{IsLettersAnswer}
use Rattle.kd_form.specs.FormParts.{IsHeading, HasFirstLine, IsLineText}

-- The start of a part. `number`: the part's number. `expected`: the number of all parts, if an earlier heading gave it.
-- `bytes_before`: the number of the form's bytes before the part.
pub record PartStart : Type 0 where
  pub number : ℕ
  pub expected : Option ℕ
  pub bytes_before : ℕ

-- `h` is the heading in the part's first line, and `body` follows this line.
pub record HasHeading (s : Day) (part : List ℕ) (h : Heading) (body : List ℕ) : Type 0 where
  pub is_heading : IsHeading s h
  pub first : HasFirstLine part (line_of (heading_words h)) body

-- `part` is a part's first line, without its LF. `found` is the heading in this line, or `None` if there is no heading.
abbrev pub IsEndedHeading : Day → List ℕ → Option Heading → Type 0
IsEndedHeading s part found =
    MatchOption found
    ((h : Heading) (body : List ℕ) → ¬ (HasHeading s (part ++ 10 ∷ []) h body))
    (λ h. IsHeading s h × IsLineText part (line_of (heading_words h)))

-- The earlier headings say that there are `parts` parts. Without an earlier heading, `parts` may be any number.
abbrev pub IsExpectedCount : Option ℕ → ℕ → Type 0
IsExpectedCount None parts = Unit {0}
IsExpectedCount (Some first) parts = first ≡ parts

-- The heading's part number is `number`. If `expected` isn't `None`, the heading says that the form has `expected`
-- parts.
pub record HasDueNumbers (number : ℕ) (expected : Option ℕ) (h : Heading) : Type 0 where
  pub numbered : h.part ≡ number
  pub as_expected : IsExpectedCount expected h.parts

-- A part cut in two: its heading, and the bytes after the heading line.
pub record PartContent : Type 0 where
  pub heading : Heading
  pub body : List ℕ

-- The result of cutting a part that starts at `p` into heading and body. The heading must be valid, with the right part
-- number and the expected number of parts. Each byte of the body must be a capital letter, a space, CR or LF.
abbrev pub IsContentAnswer : Day → PartStart → List ℕ → AnswerRule FormFault PartContent
IsContentAnswer s p part = do
  content ← Finds (λ content. HasHeading s part content.heading content.body) (BadHeading p.number)
  _ ← Demands (HasDueNumbers p.number p.expected content.heading) PartOrder
  _ ← IsBytesAnswer (p.bytes_before + (length part - length content.body) + 1) content.body
  Yields content

-- The result of deciphering a body. The fault is `CountWrong` if the body has more or fewer letters than its heading
-- says. Otherwise the result must satisfy `IsLettersAnswer`.
abbrev pub IsBodyAnswer : Day → ℕ → Heading → List ℕ → AnswerRule FormFault (List ℕ)
IsBodyAnswer s number h letters = do
  _ ← Demands (length letters ≡ h.letters) (CountWrong number)
  IsLettersAnswer s number h.indicator letters

-- A part that has been read: the number of all parts, and the letters of the part's text.
pub record ReadPart : Type 0 where
  pub parts : ℕ
  pub letters : List ℕ

-- The result of reading a whole part that starts at `p`: a `ReadPart`, or the part's first fault.
abbrev pub IsPartAnswer : Day → PartStart → List ℕ → AnswerRule FormFault ReadPart
IsPartAnswer s p part = do
  content ← IsContentAnswer s p part
  letters ← IsBodyAnswer s p.number content.heading (letters_from None content.body)
  Yields (record { parts = content.heading.parts; letters = letters })

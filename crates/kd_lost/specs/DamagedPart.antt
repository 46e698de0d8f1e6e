-- What can be read of a part in which letters were lost: its numbers, and its text. If the text can't be read, the
-- answer is the reason.
-- Test: tests/messages-as-worked
use Rattle.std.specs.Prelude.{◌≡◌, ℕ, ◌==◌, ◌||◌, Bool, IsTrue, IsFalse, if◌then◌else◌, List, [], ◌∷◌, length, map, take, All}
use Rattle.std.specs.Prelude.{filter_map, Option, None, Some, MatchOption}
use Rattle.kd_tables.specs.Text.{is_text_byte}
use Rattle.kd_state.specs.AnswerRules.{AnswerRule, ◌>>=◌, Finds, Demands}
use Rattle.kd_tables.specs.LineWords.{line_of}
use Rattle.kd_state.specs.SheetDay.{Day}
use Rattle.kd_form.specs.declared.heading.Heading.{Heading}
use Rattle.kd_form.specs.FormParts.{IsHeading, IsLineText}
use Rattle.kd_form.specs.Part.{heading_words}
use Rattle.kd_lost.specs.declared.damage.PartDamage.{PartDamage}
use Rattle.kd_lost.specs.declared.damage.PartDamage.TheVariants.{HeadingDamaged, HeadingKeyLost, BadByte, CountWrong}
use Rattle.kd_lost.specs.declared.damaged_text.DamagedText.{DamagedText}
use Rattle.kd_lost.specs.declared.damaged_text.GroupTest.{GroupTest}
use Rattle.kd_lost.specs.declared.damaged_text.GroupTest.TheVariants.{NotTested}
use Rattle.kd_lost.specs.declared.part.PartNumbers.{PartNumbers}
use Rattle.kd_lost.specs.Lost.{IsCompletion, meant_byte, covered, is_lost, received_letter, received_letters}
use Rattle.kd_lost.specs.WholePart.{IsPartText}
use Rattle.kd_lost.specs.DamagedText.{IsBodyTest, IsDamagedLettersAnswer, text_part}

-- ---- The lines of a part.

-- the first line of a part, without its LF; the whole part, if it has no LF
abbrev pub first_line : List ℕ → List ℕ
first_line [] = []
first_line (byte ∷ bytes) = if byte == 10 then [] else byte ∷ first_line bytes

-- the bytes of a part after its first line
abbrev pub body_of : List ℕ → List ℕ
body_of [] = []
body_of (byte ∷ bytes) = if byte == 10 then bytes else body_of bytes

-- The byte that is read in place of `byte`:
-- - for a small letter: its capital letter
-- - for a tab: a space
-- - for a lost letter: B, which can't complete a damaged word `PART`
-- - for any other byte: the byte itself
abbrev pub filled_byte : ℕ → ℕ
filled_byte byte = if is_lost byte then 66 else meant_byte byte

-- `line` is the line of the heading `h`. Letters of the keys may be lost in `line`; `h` has B in place of each lost
-- letter.
pub record IsDamagedHeading (s : Day) (line : List ℕ) (h : Heading) : Type 0 where
  pub is_heading : IsHeading s h
  pub text : IsLineText (map filled_byte line) (line_of (heading_words h))

-- whether the byte is allowed in a body: a letter, a lost letter, a space, CR or LF
abbrev pub is_body_byte : ℕ → Bool
is_body_byte byte = is_lost byte || is_text_byte (meant_byte byte)

-- ---- The letters by which parts are compared.

-- The letter that a byte of a body counts as, when parts are compared:
-- - for a letter: this letter
-- - for a lost letter, or a sign that isn't allowed in a body: a lost letter, `Some None`
-- - for a blank or a line end: no letter, `None`
abbrev pub body_letter : ℕ → Option (Option ℕ)
body_letter byte = if is_body_byte byte then received_letter byte else Some None

-- the first letters of a body, at most 525
abbrev pub body_letters : List ℕ → List (Option ℕ)
body_letters body = take 525 (filter_map body_letter body)

-- ---- What is read.

-- the numbers that a heading gives
abbrev pub numbers_of : Heading → PartNumbers
numbers_of h = record { part = h.part; parts = h.parts; letters = h.letters }

-- `numbers` are the numbers in the heading `line`, or `None` if `line` isn't a heading.
abbrev pub AreNumbersRead : Day → List ℕ → Option PartNumbers → Type 0
AreNumbersRead s line numbers =
    MatchOption numbers ((h : Heading) → ¬ (IsDamagedHeading s line h))
    (λ given. (h : Heading) × IsDamagedHeading s line h × (given ≡ numbers_of h))

-- `test` says whether the group or the list letters in `body` are the day's. A damaged heading has no numbers; then
-- `test` is `NotTested`.
abbrev pub IsPartTest : Day → Option PartNumbers → List (Option ℕ) → GroupTest → Type 0
IsPartTest s None body test = test ≡ NotTested
IsPartTest s (Some numbers) body test = IsBodyTest s numbers.letters body test

-- The answer for the body of a part with the heading `h`: the body's text, or the first reason why the body can't be
-- read.
abbrev pub IsDamagedBodyAnswer : Day → Heading → List ℕ → AnswerRule PartDamage DamagedText
IsDamagedBodyAnswer s h body = do
  _ ← Demands (All (λ byte. IsTrue (is_body_byte byte)) body) BadByte
  _ ← Demands (length (received_letters body) ≡ h.letters) CountWrong
  IsDamagedLettersAnswer s h.indicator (received_letters body)

-- The answer for a part: its text, or the first reason why it can't be read. The part's heading `h` was received as
-- `line`, and its body is `body`.
abbrev pub IsHeadedPartAnswer : Day → Heading → List ℕ → List ℕ → AnswerRule PartDamage DamagedText
IsHeadedPartAnswer s h line body = do
  _ ← Demands (All (λ byte. IsFalse (is_lost byte)) line) HeadingKeyLost
  IsDamagedBodyAnswer s h body

-- The answer for a part that consists of `line` and `body`. The tests come in this order:
-- - `line` is a heading.
-- - No letter of the heading is lost.
-- - Each byte of the body is allowed in a body.
-- - The body has as many letters as the heading says.
-- - On a Converter, the indicators give the keys.
abbrev pub IsDamagedLinesAnswer : Day → List ℕ → List ℕ → AnswerRule PartDamage DamagedText
IsDamagedLinesAnswer s line body = do
  h ← Finds (IsDamagedHeading s line) HeadingDamaged
  IsHeadedPartAnswer s h line body

-- The answer for a part: its text, or the first reason why there is none.
abbrev pub IsDamagedTextAnswer : Day → List ℕ → AnswerRule PartDamage DamagedText
IsDamagedTextAnswer s part = IsDamagedLinesAnswer s (first_line part) (body_of part)

-- ---- What the text of a part is, for all completions.

-- `shown` has the text of `part`, with `None` for each lost letter. A completion of `part` has some letter in place of
-- each lost letter. At least one completion has a heading and a text (`IsPartText`). The texts of all completions have
-- the same letters wherever no letter was lost, and `shown` has these letters. The group and the list letters aren't
-- tested.
pub record IsPartShown (s : Day) (part : List ℕ) (shown : DamagedText) : Type 0 where
  pub whole : List ℕ
  pub heading : Heading
  pub text : List ℕ
  pub completes : IsCompletion part whole
  pub some : IsPartText s whole heading text
  pub each : (whole : List ℕ) (h : Heading) (text : List ℕ) → IsCompletion part whole → IsPartText s whole h text
      → shown.letters.items ≡ covered (text_part h.indicator (received_letters (body_of part))) text

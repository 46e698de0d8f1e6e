-- How a part is read *by count*: with the number of received letters in place of the letter count in its heading. A
-- part may be read by count if its letter count is wrong or damaged.
-- Test: tests/cases/curator-messages.toml
use Rattle.std.specs.Prelude.{decimal, ◌≡◌, ℕ, ◌+◌, ◌==◌, not, Bool, true, false, if◌then◌else◌, is_some}
use Rattle.std.specs.Prelude.{List, [], ◌∷◌, ◌++◌, drop, Option, None, Some, IfSome, Result, Ok, Err}
use Rattle.kd_state.specs.SheetDay.{Day}
use Rattle.kd_lost.specs.declared.damage.PartDamage.{PartDamage}
use Rattle.kd_lost.specs.declared.damage.PartDamage.TheVariants as damages
use Rattle.kd_lost.specs.declared.damaged_text.DamagedText.{DamagedText}
use Rattle.kd_lost.specs.declared.part.{DamagedPart.{DamagedPart}, PartNumbers.{PartNumbers}}
use Rattle.kd_lost.specs.declared.short_line.ShortLine.{ShortLine}
use Rattle.kd_lost.specs.DamagedPart.{AreNumbersRead, IsDamagedTextAnswer, IsPartShown, first_line}
use Rattle.kd_lost.specs.HeadingLine.{is_blank}
use Rattle.kd_lost.specs.Tidy.{from_line_end}

-- ---- A heading with another count.

-- the word with which `line` begins: the bytes before its first blank
abbrev pub first_word : List ℕ → List ℕ
first_word [] = []
first_word (byte ∷ line) = if is_blank byte then [] else byte ∷ first_word line

-- `line`, from its first blank on
abbrev pub from_blank : List ℕ → List ℕ
from_blank [] = []
from_blank (byte ∷ line) = if is_blank byte then byte ∷ line else from_blank line

-- `line`, from its second word on
abbrev pub later_words : List ℕ → List ℕ
later_words line = drop 1 (from_blank line)

-- the heading `line` with another letter count: `count` replaces its third word
abbrev pub counted_line : ℕ → List ℕ → List ℕ
counted_line count line =
    first_word line ++ 32 ∷ [] ++ first_word (later_words line) ++ 32 ∷ [] ++ decimal count
    ++ from_blank (later_words (later_words line))

-- the part with another letter count: `count` replaces the third word of its heading
abbrev pub counted_part : ℕ → List ℕ → List ℕ
counted_part count part = counted_line count (first_line part) ++ from_line_end part

-- ---- Whether the count may be wrong.

-- the letter count in the heading; 0 if the heading is damaged
abbrev pub heading_count : Option PartNumbers → ℕ
heading_count (Some numbers) = numbers.letters
heading_count None = 0

-- Whether a short line explains a wrong count: with 50 letters on this line, the body would have `counted` letters, as
-- its heading says, instead of `came` letters.
abbrev pub explains : ℕ → ℕ → ShortLine → Bool
explains counted came short = counted + short.letters == came + 50

-- The short line. `None` if there is none, or if the heading's count would be wrong even with 50 letters on this line.
abbrev pub telling_line : ℕ → ℕ → Option ShortLine → Option ShortLine
telling_line counted came None = None
telling_line counted came (Some short) = if explains counted came short then Some short else None

-- The part's short line, if it explains the wrong count: with 50 letters on this line, the count would be right. `None`
-- if there is no such line.
abbrev pub part_line : DamagedPart → Option ShortLine
part_line part = telling_line (heading_count part.numbers) part.came part.short_line

-- Whether the heading's count may be wrong. It may be wrong in two cases:
-- - The heading is damaged.
-- - The body has more or fewer letters than the heading says, and no short line explains the difference.
abbrev pub is_count_doubted : Result DamagedText PartDamage → Option ShortLine → Bool
is_count_doubted (Ok shown) line = false
is_count_doubted (Err damages.HeadingDamaged) line = true
is_count_doubted (Err damages.CountWrong) line = not (is_some line)
is_count_doubted (Err _) line = false

-- ---- What is read by count.

-- the text of a part; `None` if the part couldn't be read
abbrev pub text_of : Result DamagedText PartDamage → Option DamagedText
text_of (Ok shown) = Some shown
text_of (Err damage) = None

-- `found` is the text of `part`, or `None` if the text can't be read. `numbers` are the numbers in the part's heading,
-- or `None` if the heading is damaged.
pub record IsFoundIn (s : Day) (part : List ℕ) (numbers : Option PartNumbers) (found : Option DamagedText) : Type 0 where
  pub answer : Result DamagedText PartDamage
  pub given : AreNumbersRead s (first_line part) numbers
  pub text : IsDamagedTextAnswer s part answer
  pub is_its : found ≡ text_of answer
  pub shown : IfSome found (IsPartShown s part)

-- The numbers of a part, even if its letter count is damaged:
-- - The received heading is valid: its numbers (`given`).
-- - The received heading is damaged, but the part has a text if its letter count is replaced: the numbers of the
--   heading with the new count (`counted`).
-- - In all other cases: `None`.
abbrev pub numbers_by_count : Option PartNumbers → Option PartNumbers → Option DamagedText → Option PartNumbers
numbers_by_count (Some given) counted found = Some given
numbers_by_count None counted (Some shown) = counted
numbers_by_count None counted None = None

-- How `part` is read by count: as if its letter count were `came`. The first argument says whether the received count
-- may be wrong. If so, `found` is the text, if there is one, and `numbers` are the part's numbers. If not, the part
-- isn't read by count: `found` is `None`, and `numbers` are `given`, the numbers in the received heading.
abbrev pub GivesByCount : Bool → Day → List ℕ → ℕ → Option PartNumbers → Option PartNumbers → Option DamagedText → Type 0
GivesByCount false s part came given numbers found = (found ≡ None) × (numbers ≡ given)
GivesByCount true s part came given numbers found =
    (counted : Option PartNumbers) × IsFoundIn s (counted_part came part) counted found
    × (numbers ≡ numbers_by_count given counted found)

-- `read.by_count` and `read.numbers` are what `GivesByCount` requires for `part`.
abbrev pub IsByCount : Day → List ℕ → Option PartNumbers → DamagedPart → Type 0
IsByCount s part given read =
    GivesByCount (is_count_doubted read.text (telling_line (heading_count given) read.came read.short_line)) s part
    read.came given read.numbers read.by_count

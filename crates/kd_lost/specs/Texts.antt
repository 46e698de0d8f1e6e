-- The text that is shown for a part, and whether one text has all letters of another text.
use Rattle.std.specs.Prelude.{ℕ, ◌==◌, ◌&&◌, nat_le, Bool, true, false, is_none, List, [], ◌∷◌, Option, Some, None}
use Rattle.std.specs.Prelude.{Result, Ok, Err}
use Rattle.std.specs.List.{count_by}
use Rattle.kd_lost.specs.declared.damage.PartDamage.{PartDamage}
use Rattle.kd_lost.specs.declared.damaged_text.{DamagedText.{DamagedText}, GroupTest.{GroupTest}}
use Rattle.kd_lost.specs.declared.damaged_text.GroupTest.TheVariants as tests
use Rattle.kd_lost.specs.declared.part.DamagedPart.{DamagedPart}

-- the text or, if there is none, the text by count
abbrev pub text_or : Result DamagedText PartDamage → Option DamagedText → Option DamagedText
text_or (Ok shown) counted = Some shown
text_or (Err damage) counted = counted

-- The text that is shown for a part: the part's text or, if there is none, its text by count.
abbrev pub shown_text : DamagedPart → Option DamagedText
shown_text part = text_or part.text part.by_count

-- whether the group or the list letters are of another day
abbrev pub is_wrong_day : GroupTest → Bool
is_wrong_day tests.Right = false
is_wrong_day tests.Wrong = true
is_wrong_day tests.NotTested = false

-- the result of testing the group or list letters of a text; `other` if there is no text
abbrev pub test_or : GroupTest → Option DamagedText → GroupTest
test_or other (Some shown) = shown.group
test_or other None = other

-- Whether the group or the list letters of a part are of another day. The group and the list letters can be tested even
-- in a part that isn't read.
abbrev pub is_of_other_day : DamagedPart → Bool
is_of_other_day part = is_wrong_day (test_or part.group (shown_text part))

-- how many letters of a text are lost
abbrev pub lost_in : DamagedText → ℕ
lost_in shown = count_by (λ letter. is_none letter) shown.letters.items

-- whether the first letter is lost, or is equal to the second letter
abbrev pub letter_within : Option ℕ → Option ℕ → Bool
letter_within None again = true
letter_within (Some letter) (Some again) = letter == again
letter_within (Some letter) None = false

-- whether each letter of `one` that isn't lost stands in `other`, at the same place
abbrev pub letters_within : List (Option ℕ) → List (Option ℕ) → Bool
letters_within [] other = true
letters_within (letter ∷ one) (again ∷ other) = letter_within letter again && letters_within one other
letters_within (letter ∷ one) [] = is_none letter && letters_within one []

-- Whether the text `other` has each letter of the text `one`, and at most as many lost letters. True if there is no
-- text `one`.
abbrev pub text_within : Option DamagedText → Option DamagedText → Bool
text_within None other = true
text_within (Some one) (Some other) =
    letters_within one.letters.items other.letters.items && nat_le (lost_in other) (lost_in one)
text_within (Some one) None = false

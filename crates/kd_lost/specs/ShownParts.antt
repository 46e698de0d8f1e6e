-- Which part of a received form is shown under each number, and whether the form is one whole message.
use Rattle.std.specs.Prelude.{◌≡◌, ◌≢◌, ℕ, ◌<◌, ◌==◌, if◌then◌else◌, List, [], ◌∷◌, All, Option, None, Some}
use Rattle.std.specs.Prelude.{MatchOption, Ok, IsFalse, IsTrue, is_err, is_ok, is_some, nat_le, nat_lt, ◌&&◌, ◌||◌}
use Rattle.std.specs.Prelude.{Bool, true, false}
use Rattle.std.specs.List.{count_by, range_with_len}
use Rattle.kd_lost.specs.declared.damaged_text.DamagedText.{DamagedText}
use Rattle.kd_lost.specs.declared.part.{DamagedPart.{DamagedPart}, PartNumbers.{PartNumbers}}
use Rattle.kd_lost.specs.OneMessage.{are_of_one_message}
use Rattle.kd_lost.specs.Texts.{is_of_other_day, lost_in, shown_text, text_within}

-- ---- Numbers. Only a heading gives them: a part with a damaged heading has no number.

-- the number of parts that a heading gives; if the heading is damaged, the number `later` from
-- later headings
abbrev pub parts_or : ℕ → Option PartNumbers → ℕ
parts_or later (Some numbers) = numbers.parts
parts_or later None = later

-- the number of parts that the first undamaged heading gives; 0 if all are damaged
abbrev pub total_of : List DamagedPart → ℕ
total_of [] = 0
total_of (part ∷ parts) = parts_or (total_of parts) part.numbers

-- the part number that a heading gives, followed by the numbers `others`; only `others` if the heading is damaged
abbrev pub number_before : Option PartNumbers → List ℕ → List ℕ
number_before (Some numbers) others = numbers.part ∷ others
number_before None others = others

-- the numbers of the parts that have a number, in the order in which the parts came
abbrev pub numbers_of : List DamagedPart → List ℕ
numbers_of [] = []
numbers_of (part ∷ parts) = number_before part.numbers (numbers_of parts)

-- whether the numbers never fall, and the first number is at least `before`
abbrev pub are_in_order : ℕ → List ℕ → Bool
are_in_order before [] = true
are_in_order before (number ∷ numbers) = nat_le before number && are_in_order number numbers

-- whether a heading gives `number` as the number of its part
abbrev pub is_number : ℕ → Option PartNumbers → Bool
is_number number (Some numbers) = numbers.part == number
is_number number None = false

-- how many of the received parts have the number `number`
abbrev pub times_of : List DamagedPart → ℕ → ℕ
times_of parts number = count_by (λ part. is_number number part.numbers) parts

-- ---- Repetitions.

-- Whether the text `one` is worse than the text `other`. It is worse in these cases:
-- - There is no text `one`, but a text `other`.
-- - `one` has more lost letters.
-- - Both have equally many lost letters, and `counted` says that only `other` was read with the heading's count.
abbrev pub is_text_worse : Bool → Option DamagedText → Option DamagedText → Bool
is_text_worse counted (Some one) (Some other) =
    nat_lt (lost_in other) (lost_in one) || (counted && lost_in other == lost_in one)
is_text_worse counted None (Some other) = true
is_text_worse counted one None = false

-- Whether the text of `one` is worse than the text of `other`. It is worse in these cases:
-- - `one` has no text, but `other` has a text.
-- - `one` has more lost letters.
-- - Both have equally many lost letters, and only `other` was read with the heading's count.
abbrev pub is_worse : DamagedPart → DamagedPart → Bool
is_worse one other = is_text_worse (is_err one.text && is_ok other.text) (shown_text one) (shown_text other)

-- If `later` has a better text than `part`, such as a text with fewer lost letters, `later`. Otherwise `part`.
abbrev pub better : DamagedPart → Option DamagedPart → Option DamagedPart
better part None = Some part
better part (Some later) =
    if is_worse part later then Some later else Some part

-- The part that is shown under `number`: of the parts with this number, the first with the best text. A text is better
-- if it has fewer lost letters. If equally many are lost, a text that was read with the heading's letter count is
-- better than a text by count.
abbrev pub shown_under : List DamagedPart → ℕ → Option DamagedPart
shown_under [] number = None
shown_under (part ∷ parts) number =
    if is_number number part.numbers then better part (shown_under parts number) else shown_under parts number

-- the shown text of a part; `None` if there is no part, or the part has no text
abbrev pub text_in : Option DamagedPart → Option DamagedText
text_in None = None
text_in (Some part) = shown_text part

-- Whether the part that is shown under the heading's number has all letters of `text`. True if the heading is damaged,
-- or if there is no text.
abbrev pub is_covered_by : List DamagedPart → Option DamagedText → Option PartNumbers → Bool
is_covered_by parts text None = true
is_covered_by parts text (Some numbers) = text_within text (text_in (shown_under parts numbers.part))

abbrev pub is_covered : List DamagedPart → DamagedPart → Bool
is_covered parts part = is_covered_by parts (shown_text part) part.numbers

-- Whether the shown parts have all letters of `parts`: each part's letters must be in the part that is shown under its
-- number. The shown parts are from `all`. Parts without a number don't count.
abbrev pub are_covered : List DamagedPart → List DamagedPart → Bool
are_covered all [] = true
are_covered all (part ∷ parts) = is_covered all part && are_covered all parts

-- Whether the parts are shown as one message. Two conditions must hold:
-- - Every two of the parts can be of one message.
-- - The part that is shown under a number has all letters of the other parts with this number.
abbrev pub is_one_message : List DamagedPart → Bool
is_one_message parts = are_of_one_message parts && are_covered parts parts

-- ---- Whether the form is one whole message.

-- whether at least one part is read, even if only by count
abbrev pub is_any_read : List DamagedPart → Bool
is_any_read [] = false
is_any_read (part ∷ parts) = is_ok part.text || is_some part.by_count || is_any_read parts

-- The part is read, and no letter of its text is lost.
abbrev pub IsReadWhole : DamagedPart → Type 0
IsReadWhole part =
    (shown : DamagedText) × (part.text ≡ Ok shown) × All (λ got. got ≢ None) shown.letters.items

-- A part is shown under `number`. This part is read, and no letter of its text is lost.
abbrev pub IsNumberWhole : List DamagedPart → ℕ → Type 0
IsNumberWhole parts number = MatchOption (shown_under parts number) ⊥ IsReadWhole

-- The part's group or list letters don't show that the part is of another day or network. These letters can be tested
-- even in a part that isn't read.
abbrev pub MayBeOfTheDay : DamagedPart → Type 0
MayBeOfTheDay part = IsFalse (is_of_other_day part)

-- The form is one whole message. Its parts are shown as one message. Each part has a number, and no part is of another
-- day or network. Under each number, from 1 to the number of parts, a text without a lost letter is shown.
pub record IsWhole (parts : List DamagedPart) : Type 0 where
  pub one_message : IsTrue (is_one_message parts)
  pub numbered : All (λ part. part.numbers ≢ None) parts
  pub of_the_day : All MayBeOfTheDay parts
  pub some : 0 < total_of parts
  pub each : All (IsNumberWhole parts) (range_with_len 1 (total_of parts))

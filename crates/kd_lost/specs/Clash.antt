-- Two parts of a received form that can't be put together as one message, and how they differ.
use Rattle.std.specs.Prelude.{ℕ, ◌+◌, ◌/◌, ◌==◌, ◌&&◌, Bool, true, if◌then◌else◌, List, [], ◌∷◌, Option, Some, None}
use Rattle.std.specs.Prelude.{Result, Ok, Err}
use Rattle.std.specs.Option.{option_map_or}
use Rattle.kd_lost.specs.declared.clash.{Clash.{Clash}, Difference.{Difference}}
use Rattle.kd_lost.specs.declared.clash.Difference.TheVariants as differences
use Rattle.kd_lost.specs.declared.damage.PartDamage.{PartDamage}
use Rattle.kd_lost.specs.declared.damaged_text.DamagedText.{DamagedText}
use Rattle.kd_lost.specs.declared.part.{DamagedPart.{DamagedPart}, PartNumbers.{PartNumbers}}
use Rattle.kd_lost.specs.OneMessage.{days_agree, keys_agree, letter_agrees, parts_agree, same_keys}
use Rattle.kd_lost.specs.ShownParts.{is_covered, shown_under}

-- whether two headings give the same number of parts, or one of them is damaged
abbrev pub have_one_total : Option PartNumbers → Option PartNumbers → Bool
have_one_total (Some one) (Some other) = one.parts == other.parts
have_one_total (Some one) None = true
have_one_total None other = true

-- the first place at which two bodies have different letters; `place` is the place of the first letters
abbrev pub first_different_place : ℕ → List (Option ℕ) → List (Option ℕ) → Option ℕ
first_different_place place (letter ∷ one) (again ∷ other) =
    if letter_agrees letter again then first_different_place (place + 1) one other else Some place
first_different_place place [] other = None
first_different_place place (letter ∷ one) [] = None

-- the group of a place; places are counted from 0, groups from 1
abbrev pub group_of : Option ℕ → Option ℕ
group_of (Some place) = Some (place / 5 + 1)
group_of None = None

-- the first group in which two bodies have different letters, counted from 1
abbrev pub first_different_group : List (Option ℕ) → List (Option ℕ) → Option ℕ
first_different_group one other = group_of (first_different_place 0 one other)

-- whether two parts are read with the same keys, or one isn't read with its heading's count
abbrev pub text_keys_agree : Result DamagedText PartDamage → Result DamagedText PartDamage → Bool
text_keys_agree (Ok one) (Ok other) = same_keys one.keys other.keys
text_keys_agree (Ok one) (Err damage) = true
text_keys_agree (Err damage) other = true

-- whether two parts may have the same keys, in their headings and in their bodies
abbrev pub have_one_key : DamagedPart → DamagedPart → Bool
have_one_key one other = keys_agree one other && text_keys_agree one.text other.text

-- How two parts with one number differ that can't be of one message. `group` is the first group in which they have
-- different letters.
abbrev pub difference_in : DamagedPart → DamagedPart → Option ℕ → Difference
difference_in one other (Some group) = differences.Group group
difference_in one other None =
    if have_one_key one other
    then (if days_agree one other then differences.Length else differences.Day)
    else differences.Keys

-- how two parts differ that can't be of one message
abbrev pub difference_of : DamagedPart → DamagedPart → Difference
difference_of one other =
    if have_one_total one.numbers other.numbers
    then difference_in one other (first_different_group one.body.items other.body.items) else differences.Totals

-- `first`; if there is none, `later`
abbrev pub first_clash : Option Clash → Option Clash → Option Clash
first_clash (Some clash) later = Some clash
first_clash None later = later

-- `part` and the first of the other parts that can't be of one message with it
abbrev pub clash_with : DamagedPart → List DamagedPart → Option Clash
clash_with part [] = None
clash_with part (other ∷ others) =
    if parts_agree part other then clash_with part others
    else Some (record { line = part.line; other_line = other.line; difference = difference_of part other })

-- the first two of the parts that can't be of one message
abbrev pub clash_among : List DamagedPart → Option Clash
clash_among [] = None
clash_among (part ∷ parts) = first_clash (clash_with part parts) (clash_among parts)

-- the line on which the part begins that is shown under the number in `numbers`; if there is no such part, `line`
abbrev pub line_shown : List DamagedPart → ℕ → Option PartNumbers → ℕ
line_shown all line (Some numbers) = option_map_or (λ shown. shown.line) (shown_under all numbers.part) line
line_shown all line None = line

-- The first of the parts with a letter that the part shown under its number lacks, and this shown part. The shown parts
-- are from `all`.
abbrev pub uncovered_among : List DamagedPart → List DamagedPart → Option Clash
uncovered_among all [] = None
uncovered_among all (part ∷ parts) =
    if is_covered all part then uncovered_among all parts
    else Some (record {
      line = part.line;
      other_line = line_shown all part.line part.numbers;
      difference = differences.Letters;
    })

-- The first two parts that can't be put together as one message. Two parts that can't be of one message come before a
-- part whose letters aren't all shown.
abbrev pub clash_of : List DamagedPart → Option Clash
clash_of parts = first_clash (clash_among parts) (uncovered_among parts parts)

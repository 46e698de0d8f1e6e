-- Whether the parts of a received form are of one message.
use Rattle.std.specs.Prelude.{ℕ, ◌==◌, ◌&&◌, ◌||◌, not, Bool, true, false, List, [], ◌∷◌, Option, Some, None}
use Rattle.std.specs.Prelude.{Result, Ok, Err, is_err, is_none, length, nat_le}
use Rattle.kd_lost.specs.declared.damage.PartDamage.{PartDamage}
use Rattle.kd_lost.specs.declared.damaged_text.{DamagedText.{DamagedText}, TextKeys.{TextKeys}}
use Rattle.kd_lost.specs.declared.damaged_text.TextKeys.TheVariants as text_keys
use Rattle.kd_lost.specs.declared.part.{DamagedPart.{DamagedPart}, PartNumbers.{PartNumbers}}
use Rattle.kd_lost.specs.ByCount.{first_word, later_words}
use Rattle.kd_lost.specs.Lost.{is_lost}
use Rattle.kd_lost.specs.Texts.{is_of_other_day, shown_text}

-- ---- Two parts that were read.

-- whether both letters may come from one sent letter: they are equal, or at least one is lost
abbrev pub letter_agrees : Option ℕ → Option ℕ → Bool
letter_agrees (Some one) (Some other) = one == other
letter_agrees (Some one) None = true
letter_agrees None other = true

-- Whether two bodies may come from one sent body. They are equally long, and at each place, the letters are equal or
-- one is lost.
abbrev pub letters_agree : List (Option ℕ) → List (Option ℕ) → Bool
letters_agree (letter ∷ one) (again ∷ other) = letter_agrees letter again && letters_agree one other
letters_agree [] [] = true
letters_agree [] (again ∷ other) = false
letters_agree (letter ∷ one) [] = false

-- whether two lists of letters are equal
abbrev pub same_letters : List ℕ → List ℕ → Bool
same_letters [] [] = true
same_letters (letter ∷ one) (again ∷ other) = letter == again && same_letters one other
same_letters [] (again ∷ other) = false
same_letters (letter ∷ one) [] = false

-- Whether two texts have the same keys. On a rotor machine, these are the ground setting and the enciphered key; on the
-- Converter M-209, the chosen letter and the external letters.
abbrev pub same_keys : TextKeys → TextKeys → Bool
same_keys (text_keys.Rotor one) (text_keys.Rotor other) =
    same_letters one.ground_setting other.ground_setting && same_letters one.enciphered_key other.enciphered_key
same_keys (text_keys.Pin one) (text_keys.Pin other) =
    one.indicator.chosen == other.indicator.chosen && same_letters one.indicator.external other.indicator.external
same_keys (text_keys.Rotor one) (text_keys.Pin other) = false
same_keys (text_keys.Pin one) (text_keys.Rotor other) = false

-- Whether the texts of two parts may be one text, sent twice. True if one of the parts couldn't be read.
abbrev pub texts_agree : Result DamagedText PartDamage → Result DamagedText PartDamage → Bool
texts_agree (Ok one) (Ok other) =
    letters_agree one.received.items other.received.items && same_keys one.keys other.keys
texts_agree (Ok one) (Err damage) = true
texts_agree (Err damage) other = true

-- ---- Any two parts, read or not.

-- whether two bodies may be equal up to the end of the shorter body: at each place, the letters are equal or one is
-- lost
abbrev pub bodies_agree : List (Option ℕ) → List (Option ℕ) → Bool
bodies_agree (letter ∷ one) (again ∷ other) = letter_agrees letter again && bodies_agree one other
bodies_agree [] other = true
bodies_agree (letter ∷ one) [] = true

-- whether `one` has at most as many letters as `other`, or `other` couldn't be read
abbrev pub ends_within : DamagedPart → DamagedPart → Bool
ends_within one other = is_err other.text || nat_le one.came other.came

-- the signs of a heading after its letter count: on a rotor machine, the ground setting and the enciphered key
abbrev pub key_signs : List ℕ → List ℕ
key_signs heading = later_words (later_words (later_words heading))

-- whether both signs may come from one sent sign: they are equal, or at least one is lost
abbrev pub sign_agrees : ℕ → ℕ → Bool
sign_agrees sign again = sign == again || (is_lost sign || is_lost again)

-- whether two lists of signs may be equal up to the end of the shorter list: at each place, the signs are equal or one
-- is lost
abbrev pub signs_agree : List ℕ → List ℕ → Bool
signs_agree (sign ∷ one) (again ∷ other) = sign_agrees sign again && signs_agree one other
signs_agree [] other = true
signs_agree (sign ∷ one) [] = true

-- whether two headings may have the same keys: at each place that both keys have, the signs are equal or one is lost
abbrev pub keys_agree : DamagedPart → DamagedPart → Bool
keys_agree one other = signs_agree (key_signs one.heading.bytes) (key_signs other.heading.bytes)

-- the third word of a heading, its letter count
abbrev pub count_signs : List ℕ → List ℕ
count_signs heading = first_word (later_words (later_words heading))

-- Whether two letter counts may be the same. They have equally many signs, and at each place, the signs are equal or
-- one is lost.
abbrev pub same_count : List ℕ → List ℕ → Bool
same_count one other = length one == length other && signs_agree one other

-- whether two parts may have equally many letters: equally many were received, or the counts in their headings may be
-- equal
abbrev pub counts_agree : DamagedPart → DamagedPart → Bool
counts_agree one other =
    one.came == other.came || same_count (count_signs one.heading.bytes) (count_signs other.heading.bytes)

-- whether the headings of two parts may be one heading, sent twice
abbrev pub heading_repeats : DamagedPart → DamagedPart → Bool
heading_repeats one other = counts_agree one other && keys_agree one other

-- Whether part `one` may be from another day than part `other`. Three conditions must hold:
-- - Part `one` isn't read, not even by count.
-- - The group or the list letters of part `one` are of another day.
-- - The group or the list letters of part `other` aren't of another day.
abbrev pub is_stranger : DamagedPart → DamagedPart → Bool
is_stranger one other =
    is_none (shown_text one) && (is_of_other_day one && not (is_of_other_day other))

-- whether neither of two parts may be from another day than the other part (see `is_stranger`)
abbrev pub days_agree : DamagedPart → DamagedPart → Bool
days_agree one other = not (is_stranger one other) && not (is_stranger other one)

-- whether the headings of two parts may be one heading, sent twice, and the parts may be of one day
abbrev pub frames_agree : DamagedPart → DamagedPart → Bool
frames_agree one other = heading_repeats one other && days_agree one other

-- Whether two parts may be one part, sent twice. All of these conditions must hold:
-- - At each place that both bodies have, the letters are equal or one is lost.
-- - The two headings may be one heading, and the parts may be of one day.
-- - If both parts are read, they may have the same text.
-- - If one part is read, the other part has at most as many letters.
abbrev pub may_repeat : DamagedPart → DamagedPart → Bool
may_repeat one other =
    bodies_agree one.body.items other.body.items
    && (texts_agree one.text other.text && (ends_within one other && (ends_within other one && frames_agree one other)))

-- ---- The parts of a form.

-- Whether two headings can be of one message. Both must give the same number of parts. Their part numbers must differ,
-- unless `agree` says that the parts may be one part, sent twice.
abbrev pub numbers_agree : PartNumbers → PartNumbers → Bool → Bool
numbers_agree one other agree =
    one.parts == other.parts && (not (one.part == other.part) || agree)

-- Whether two headings can be of one message. If both are valid, `numbers_agree` decides. A damaged heading can be of
-- one message with any heading.
abbrev pub headings_agree : Option PartNumbers → Option PartNumbers → Bool → Bool
headings_agree (Some one) (Some other) agree = numbers_agree one other agree
headings_agree (Some one) None agree = true
headings_agree None other agree = true

-- whether two parts can be of one message
abbrev pub parts_agree : DamagedPart → DamagedPart → Bool
parts_agree one other = headings_agree one.numbers other.numbers (may_repeat one other)

-- whether `part` and each of the other parts can be of one message
abbrev pub agrees_with_each : DamagedPart → List DamagedPart → Bool
agrees_with_each part [] = true
agrees_with_each part (other ∷ others) = parts_agree part other && agrees_with_each part others

-- whether every two of the parts can be of one message
abbrev pub are_of_one_message : List DamagedPart → Bool
are_of_one_message [] = true
are_of_one_message (part ∷ parts) = agrees_with_each part parts && are_of_one_message parts

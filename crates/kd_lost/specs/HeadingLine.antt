-- Which lines of a damaged form are taken for headings. A line that is taken for a heading begins like `PART`. It also
-- has a digit or a slash, or its second word begins with a lost sign. So a wrong sign in a body doesn't begin a part. A
-- heading begins a part even if some of its signs are lost or wrong.
-- Test: tests/cases/curator-messages.toml
use Rattle.std.specs.Prelude.{codes, ℕ, ◌+◌, ◌==◌, ◌&&◌, ◌||◌, nat_le, Bool, false, true, if◌then◌else◌, List, [], ◌∷◌}
use Rattle.std.specs.Prelude.{Option, None, Some, drop, is_some, length, map, not, slice_get, take}
use Rattle.kd_tables.specs.Text.{is_capital}
use Rattle.kd_lost.specs.Lost.{meant_byte, is_lost, received_letter}

-- whether the byte is a blank: a space or a tab
abbrev pub is_blank : ℕ → Bool
is_blank byte = byte == 32 || byte == 9

-- `bytes` without the blanks at their beginning
abbrev pub after_blanks : List ℕ → List ℕ
after_blanks [] = []
after_blanks (byte ∷ bytes) = if is_blank byte then after_blanks bytes else byte ∷ bytes

-- in how many places the first line of `bytes` has the sign of `word`; small letters mean capitals
unfoldable pub right_signs : List ℕ → List ℕ → ℕ
right_signs (letter ∷ word) (byte ∷ bytes) =
    if byte == 10 then 0 else (if meant_byte byte == letter then 1 else 0) + right_signs word bytes
right_signs [] bytes = 0
right_signs (letter ∷ word) [] = 0

-- in how many places the first line of `bytes` has the sign of `word`, or a lost sign
unfoldable pub fitting_signs : List ℕ → List ℕ → ℕ
fitting_signs (letter ∷ word) (byte ∷ bytes) =
    if byte == 10 then 0
    else (if meant_byte byte == letter || is_lost byte then 1 else 0) + fitting_signs word bytes
fitting_signs [] bytes = 0
fitting_signs (letter ∷ word) [] = 0

-- whether the byte is a letter, capital or small; false for `None`
unfoldable pub is_letter : Option ℕ → Bool
is_letter None = false
is_letter (Some byte) = is_capital (meant_byte byte)

-- Whether `bytes` begin with the word `PART`, perhaps damaged. At least two of its letters are right, at most one is
-- wrong, and the others are lost. No fifth letter follows.
abbrev pub begins_with_part : List ℕ → Bool
begins_with_part bytes =
    nat_le 2 (right_signs (codes "PART") bytes) && nat_le 3 (fitting_signs (codes "PART") bytes)
    && not (is_letter (slice_get bytes 4))

-- whether `bytes` begin with `word`, and no letter follows
abbrev pub begins_with_word : List ℕ → List ℕ → Bool
begins_with_word word bytes =
    right_signs word bytes == length word && not (is_letter (slice_get bytes (length word)))

-- whether `bytes` begin with `ART`, `PRT`, `PAT` or `PAR`, and no letter follows
abbrev pub begins_with_three : List ℕ → Bool
begins_with_three bytes =
    begins_with_word (codes "ART") bytes || begins_with_word (codes "PRT") bytes
    || begins_with_word (codes "PAT") bytes || begins_with_word (codes "PAR") bytes

-- whether `bytes` begin with `PART` with two neighbouring letters exchanged, such as `PRAT`; no letter follows
abbrev pub begins_exchanged : List ℕ → Bool
begins_exchanged bytes =
    begins_with_word (codes "APRT") bytes || begins_with_word (codes "PRAT") bytes
    || begins_with_word (codes "PATR") bytes

-- whether `bytes` begin with `PART` with a blank between two letters, such as `PA RT`; no letter follows
abbrev pub begins_with_blank : List ℕ → Bool
begins_with_blank bytes =
    begins_with_word (codes "P ART") bytes || begins_with_word (codes "PA RT") bytes
    || begins_with_word (codes "PAR T") bytes

-- whether `bytes` begin with `front`, then any letter, then `back`
abbrev pub begins_apart : List ℕ → List ℕ → List ℕ → Bool
begins_apart front back bytes =
    is_letter (slice_get bytes (length front))
    && (right_signs front bytes == length front && right_signs back (drop (length front + 1) bytes) == length back)

-- whether `bytes` begin with `PART` with an extra letter before one of its letters, such as `PAXRT`
abbrev pub has_five : List ℕ → Bool
has_five bytes =
    begins_apart [] (codes "PART") bytes || begins_apart (codes "P") (codes "ART") bytes
    || begins_apart (codes "PA") (codes "RT") bytes || begins_apart (codes "PAR") (codes "T") bytes

-- Whether `bytes` begin with `PART` with an extra letter before one of its letters, such as `PAXRT`. No sixth letter
-- follows.
abbrev pub begins_with_five : List ℕ → Bool
begins_with_five bytes = has_five bytes && not (is_letter (slice_get bytes 5))

-- whether the first line of `bytes` has a digit or a slash
abbrev pub has_digit_line : List ℕ → Bool
has_digit_line [] = false
has_digit_line (byte ∷ bytes) =
    if byte == 10 then false else (nat_le 47 byte && nat_le byte 57) || has_digit_line bytes

-- Whether the first line of `bytes` begins like `PART`, after any blanks. The word is complete, or has one of these
-- faults:
-- - One or two letters are lost or wrong, but at most one is wrong.
-- - One letter is missing.
-- - An extra letter stands before the P, the A, the R or the T.
-- - Two neighbouring letters are exchanged.
-- - A blank stands between two letters.
abbrev pub is_part_line : List ℕ → Bool
is_part_line bytes =
    begins_with_part (after_blanks bytes) || begins_with_three (after_blanks bytes)
    || begins_with_five (after_blanks bytes) || begins_exchanged (after_blanks bytes)
    || begins_with_blank (after_blanks bytes)

-- how many letters or lost signs stand at the beginning of `bytes`
abbrev pub leading_signs : List ℕ → ℕ
leading_signs [] = 0
leading_signs (byte ∷ bytes) = if is_some (received_letter byte) then 1 + leading_signs bytes else 0

-- whether the first line of `bytes` begins with two groups of five letters; letters of the groups may be lost
abbrev pub begins_with_groups : List ℕ → Bool
begins_with_groups bytes =
    leading_signs (after_blanks bytes) == 5 && leading_signs (after_blanks (drop 5 (after_blanks bytes))) == 5

-- whether the first line of `bytes` may belong to a part: it begins like `PART`, or with two groups of five letters
unfoldable pub may_be_part : List ℕ → Bool
may_be_part bytes = is_part_line bytes || begins_with_groups bytes

-- `bytes` after their first word: from the first blank or LF on
abbrev pub after_word : List ℕ → List ℕ
after_word [] = []
after_word (byte ∷ bytes) = if is_blank byte || byte == 10 then byte ∷ bytes else after_word bytes

-- whether the byte stands for a lost sign; false for `None`
abbrev pub is_lost_sign : Option ℕ → Bool
is_lost_sign None = false
is_lost_sign (Some byte) = is_lost byte

-- whether the byte is a blank; false for `None`
abbrev pub is_blank_at : Option ℕ → Bool
is_blank_at None = false
is_blank_at (Some byte) = is_blank byte

-- Whether the fourth or the fifth byte of `bytes` is a blank. So the first word has at most four signs: it may be
-- `PART`, but isn't a group of five letters.
abbrev pub has_short_word : List ℕ → Bool
has_short_word bytes = is_blank_at (slice_get bytes 3) || is_blank_at (slice_get bytes 4)

-- whether the first word may be `PART`, and the second word begins with a lost sign, in place of the part's number
abbrev pub has_lost_number : List ℕ → Bool
has_lost_number bytes =
    has_short_word (after_blanks bytes) && is_lost_sign (slice_get (after_blanks (after_word (after_blanks bytes))) 0)

-- whether the first line of `bytes` is taken for a heading
unfoldable pub is_heading_line : List ℕ → Bool
is_heading_line bytes = is_part_line bytes && (has_digit_line bytes || has_lost_number bytes)

-- ---- A heading as it came.

-- whether the byte is allowed in a heading: a capital letter, a digit, a lost sign, `/` or a space
abbrev pub is_heading_byte : ℕ → Bool
is_heading_byte byte =
    is_capital byte || (nat_le 47 byte && nat_le byte 57) || (is_lost byte || byte == 32)

-- the sign that the byte means; `?` if this sign isn't allowed in a heading
abbrev pub heading_sign : ℕ → ℕ
heading_sign byte = if is_heading_byte (meant_byte byte) then meant_byte byte else 63

-- the first signs of a heading line, at most 64
abbrev pub heading_signs : List ℕ → List ℕ
heading_signs line = map heading_sign (take 64 line)

-- ---- An order in place of a form.

-- whether a line ends at a byte: the byte is an LF or a CR, or there is no byte
abbrev pub ends_line : Option ℕ → Bool
ends_line None = true
ends_line (Some byte) = byte == 10 || byte == 13

-- whether `bytes` begin with the line `TEXT`
abbrev pub is_text_line : List ℕ → Bool
is_text_line bytes = nat_le 4 (right_signs (codes "TEXT") bytes) && ends_line (slice_get bytes 4)

-- whether a line after the first line of `bytes` is `TEXT`
abbrev pub has_text_line : List ℕ → Bool
has_text_line [] = false
has_text_line (byte ∷ bytes) = if byte == 10 && is_text_line bytes then true else has_text_line bytes

-- Whether `bytes` look like an order to send. Their first line begins like `PART`, and has no digit or slash. A later
-- line is `TEXT`.
abbrev pub is_order : List ℕ → Bool
is_order bytes =
    begins_with_part (after_blanks bytes) && not (has_digit_line bytes) && has_text_line bytes

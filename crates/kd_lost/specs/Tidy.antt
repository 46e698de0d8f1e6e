-- How noise is dropped from a form. Noise is bytes that no operator sent, such as a byte order mark, or lines that
-- were typed above the form. A byte order mark is dropped, and so are the lines before the first heading. But if one
-- of these lines begins like `PART`, or with two groups of five letters, it may belong to a part. Then all these lines
-- stay. In a heading, one blank stays between two words, and all other blanks are dropped. Bodies may have any spaces
-- and line ends.
-- Test: tests/cases/curator-messages.toml
use Rattle.std.specs.Prelude.{ℕ, ◌==◌, ◌&&◌, ◌||◌, Bool, true, if◌then◌else◌, List, [], ◌∷◌, ◌++◌, take, drop}
use Rattle.std.specs.Prelude.{Option, None, Some, unwrap_or}
use Rattle.std.specs.Str.{bytes_eq}
use Rattle.kd_lost.specs.HeadingLine.{after_blanks, is_blank, is_heading_line, may_be_part}
use Rattle.kd_lost.specs.DamagedPart.{first_line}

-- ---- The form.

-- `form`, without a byte order mark at its start
abbrev pub without_mark : List ℕ → List ℕ
without_mark form = if bytes_eq (take 3 form) (239 ∷ 187 ∷ 191 ∷ []) then drop 3 form else form

-- All bytes from the first heading after the first line to the end. `None` in two cases:
-- - No heading stands after the first line.
-- - A line between the first line and this heading may belong to a part.
abbrev pub later_heading : List ℕ → Option (List ℕ)
later_heading [] = None
later_heading (byte ∷ bytes) =
    if byte == 10 && is_heading_line bytes then Some bytes
    else if byte == 10 && may_be_part bytes then None else later_heading bytes

-- `bytes` from the first heading on. All of `bytes` if they have no heading, or if a line before the first heading may
-- belong to a part.
abbrev pub from_heading : List ℕ → List ℕ
from_heading bytes = if may_be_part bytes then bytes else unwrap_or (later_heading bytes) bytes

-- The form, without a byte order mark and without the lines before its first heading. These lines stay if one of them
-- may belong to a part.
abbrev pub tidied : List ℕ → List ℕ
tidied form = from_heading (without_mark form)

-- ---- The heading of a part.

-- whether the byte is a gap between words: a blank, or CR
abbrev pub is_gap : ℕ → Bool
is_gap byte = is_blank byte || byte == 13

-- whether `line` begins with a gap, or is empty
abbrev pub ends_word : List ℕ → Bool
ends_word [] = true
ends_word (byte ∷ line) = is_gap byte

-- a space if the byte is a gap; otherwise the byte itself
abbrev pub as_space : ℕ → ℕ
as_space byte = if is_gap byte then 32 else byte

-- The bytes that are written for `byte`, which is followed by `line`:
-- - for a gap before another gap, or at the end of the line: no byte
-- - for any other gap: a space
-- - for any other byte: the byte itself
unfoldable pub spaced_byte : ℕ → List ℕ → List ℕ
spaced_byte byte line = if is_gap byte && ends_word line then [] else as_space byte ∷ []

-- `line` without the gaps at its end, and with one space in place of the gaps between two words
abbrev pub spaced_from : List ℕ → List ℕ
spaced_from [] = []
spaced_from (byte ∷ line) = spaced_byte byte line ++ spaced_from line

-- the words of `line`, with single spaces between them
abbrev pub single_spaced : List ℕ → List ℕ
single_spaced line = spaced_from (after_blanks line)

-- the bytes of a part from its first LF on
abbrev pub from_line_end : List ℕ → List ℕ
from_line_end [] = []
from_line_end (byte ∷ bytes) = if byte == 10 then byte ∷ bytes else from_line_end bytes

-- the part, with single spaces between the words of its first line
abbrev pub respaced : List ℕ → List ℕ
respaced part = single_spaced (first_line part) ++ from_line_end part

-- The places of the plugboard's sockets in its picture: three rows, in the order of the keyboard. Code: one table has
-- the row of each letter, another table has the letter's place in the row.
use Rattle.std.specs.Prelude.{codes, ℕ, ◌+◌, ◌*◌, ◌<◌, ◌==◌, ◌≢◌, nat_eq, nat_le, Bool, ◌||◌, if◌then◌else◌, IsTrue}
use Rattle.std.specs.Prelude.{List, ◌++◌}
use Rattle.std.specs.List.{position_or_len}
use Rattle.kd_tables.specs.Tables.{letters_of}
use Rattle.kd_tables.specs.Pairs.{has_letter}

abbrev pub upper_row : List ℕ
upper_row = letters_of (codes "QWERTZUIO")

abbrev pub middle_row : List ℕ
middle_row = letters_of (codes "ASDFGHJK")

abbrev pub lower_row : List ℕ
lower_row = letters_of (codes "PYXCVBNML")

-- all letters: row by row from the top, and from the left in each row
abbrev pub keyboard : List ℕ
keyboard = upper_row ++ middle_row ++ lower_row

-- the row of a letter's socket, counted from 0 at the top
unfoldable pub socket_row : ℕ → ℕ
socket_row letter = if has_letter upper_row letter then 0 else if has_letter middle_row letter then 1 else 2

-- the place of a letter's socket in its row, counted from 0 at the left
unfoldable pub socket_place : ℕ → ℕ
socket_place letter =
    position_or_len (nat_eq letter)
    (if has_letter upper_row letter then upper_row else if has_letter middle_row letter then middle_row else lower_row)

-- how far a letter's socket is from the picture's left edge
abbrev pub socket_x : ℕ → ℕ
socket_x letter = (if socket_row letter == 1 then 70 else 40) + 60 * socket_place letter

-- how far a letter's socket is from the picture's upper edge
abbrev pub socket_y : ℕ → ℕ
socket_y letter = if socket_row letter == 0 then 46 else if socket_row letter == 1 then 116 else 286

-- how far the name of a letter's socket is from the picture's upper edge
abbrev pub label_y : ℕ → ℕ
label_y letter = if socket_row letter == 0 then 24 else if socket_row letter == 1 then 94 else 323

-- the distance from the left at which a cable's line reaches a letter's socket
abbrev pub line_x : ℕ → ℕ
line_x letter = if socket_row letter == 2 then socket_x letter + 10 else socket_x letter

-- whether the cable lines to two letters' sockets are at least 10 units apart in the picture
abbrev pub are_apart : ℕ → ℕ → Bool
are_apart one other = nat_le (line_x one + 10) (line_x other) || nat_le (line_x other + 10) (line_x one)

-- The cable lines to the sockets of two different letters never lie on each other.
abbrev pub LinesAreApart : Type 0
LinesAreApart = (one other : ℕ) → one < 26 → other < 26 → one ≢ other → IsTrue (are_apart one other)

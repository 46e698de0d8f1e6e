-- The first short line of a body: this line has letters, but not exactly 50, and more letters follow. `desk send`
-- writes lines of 50 letters.
use Rattle.std.specs.Prelude.{ℕ, ◌+◌, ◌-◌, ◌==◌, ◌&&◌, not, nat_lt, Bool, if◌then◌else◌, List, [], ◌∷◌, length}
use Rattle.std.specs.Prelude.{Option, None, Some}
use Rattle.kd_lost.specs.declared.short_line.ShortLine.{ShortLine}
use Rattle.kd_lost.specs.DamagedPart.{body_of, first_line}
use Rattle.kd_lost.specs.Lost.{received_letters}

-- how many letters stand in the bytes, lost ones included
abbrev pub letters_on : List ℕ → ℕ
letters_on bytes = length (received_letters bytes)

-- whether a line of `letters` letters is short: `letters` is neither 0 nor 50
abbrev pub is_short : ℕ → Bool
is_short letters = not (letters == 0) && not (letters == 50)

-- for each line of a body but the first, one item: the bytes from the start of this line to the end of the body
abbrev pub later_lines : List ℕ → List (List ℕ)
later_lines [] = []
later_lines (byte ∷ bytes) = if byte == 10 then bytes ∷ later_lines bytes else later_lines bytes

-- The first short line from line `number` on. The list has an item for each line from there on: the bytes from the
-- start of this line to the end of the body. The whole body has `all` letters.
abbrev pub short_line_from : ℕ → ℕ → List (List ℕ) → Option ShortLine
short_line_from all number [] = None
short_line_from all number (bytes ∷ others) =
    if is_short (letters_on (first_line bytes)) && nat_lt 0 (letters_on (body_of bytes))
    then Some (record { line = number; letters = letters_on (first_line bytes); before = all - letters_on bytes })
    else short_line_from all (number + 1) others

-- the first short line of a body; the body begins on line 2 of its part
abbrev pub short_line : List ℕ → Option ShortLine
short_line body = short_line_from (letters_on body) 2 (body ∷ later_lines body)

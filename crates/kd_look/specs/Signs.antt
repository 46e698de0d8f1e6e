-- How lines are compared with patterns: in a pattern, `_` stands for any capital letter, and each other byte for
-- itself. Indexes are counted from 0.
-- Test: tests/cases/curator-look.toml
use Rattle.std.specs.Prelude.{ℕ, ◌+◌, ◌==◌, not, Bool, false, Option, List, [], ◌∷◌, Result, Ok, Err, slice_get, if◌then◌else◌}
use Rattle.std.specs.List.{position}
use Rattle.std.specs.Option.{option_map_or}
use Rattle.kd_tables.specs.Text.{is_capital, is_text_byte}
use Rattle.kd_sheet.specs.Document.{◌>>=◌}
use Rattle.kd_look.specs.declared.message.signs.WrongByte.{WrongByte}

-- the index of the first byte that isn't allowed in a text or a body
abbrev pub wrong_sign : List ℕ → Option ℕ
wrong_sign bytes = position (λ byte. not (is_text_byte byte)) bytes

-- whether `byte` fits `mark`, a byte of a pattern
abbrev pub fits_mark : ℕ → ℕ → Bool
fits_mark mark byte = if mark == 95 then is_capital byte else byte == mark

-- whether the text has a byte at `index`, and this byte fits `mark`
abbrev pub fits_at : List ℕ → ℕ → ℕ → Bool
fits_at text mark index = option_map_or (fits_mark mark) (slice_get text index) false

-- the index after the line end at `index`, or the byte that isn't a line end; a line ends in LF, or in CR and LF
unfoldable pub end_of_line : List ℕ → ℕ → Result ℕ WrongByte
end_of_line text index =
    if fits_at text 10 index then Ok (index + 1)
    else if fits_at text 13 index
    then (if fits_at text 10 (index + 1) then Ok (index + 2) else Err (record { index = index + 1; mark = 10 }))
    else Err (record { index = index; mark = 10 })

-- Compares the bytes from `index` on with the pattern `marks`. The result is the index after the bytes that fit, or the
-- first byte that doesn't fit.
abbrev pub marks_end : List ℕ → List ℕ → ℕ → Result ℕ WrongByte
marks_end text [] index = Ok index
marks_end text (mark ∷ marks) index =
    if fits_at text mark index then marks_end text marks (index + 1) else Err (record { index = index; mark = mark })

-- Compares the line that begins at `index` with the pattern `marks`. The result is the index after the line's end, or
-- the first byte that doesn't fit.
abbrev pub line_end : List ℕ → List ℕ → ℕ → Result ℕ WrongByte
line_end text marks index = marks_end text marks index >>= end_of_line text

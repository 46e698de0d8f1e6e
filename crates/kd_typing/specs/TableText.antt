-- Tables as text: lines of capital letters and digits, with LFs between them.
use Rattle.std.specs.Prelude.{ℕ, ◌+◌, ◌-◌, ◌%◌, ◌==◌, Bool, List, [], ◌∷◌, ◌++◌, drop, flat_map, length, map}
use Rattle.std.specs.Prelude.{slice_index_or, take}
use Rattle.std.specs.List.{range_with_len, slice_split}
use Rattle.std.specs.Int.{from_bool}
use Rattle.kd_tables.specs.Tables.{letters_of}
use Rattle.kd_tables.specs.Text.{letters_text}
use Rattle.kd_pins.specs.PinWheel.{is_effective}
use Rattle.kd_typing.specs.PinTable.{PinTable}
use Rattle.kd_typing.specs.RotorTable.{RotorTable}

-- the lines, with LFs between them
abbrev pub lines_text : List (List ℕ) → List ℕ
lines_text [] = []
lines_text (line ∷ lines) = line ++ flat_map (λ other. 10 ∷ other) lines

-- numbers from 0 to 9, each as a digit
abbrev pub digits_text : List ℕ → List ℕ
digits_text numbers = map (λ number. 48 + number) numbers

-- The lines of a rotor machine's table: `steps` as one line of digits, the rows of `into`, and the rows of `core`.
abbrev pub rotor_lines : RotorTable → List (List ℕ)
rotor_lines table = digits_text table.steps ∷ map letters_text table.into ++ map letters_text table.core

-- a digit for each pin: 1 if the pin is effective, and 0 if it isn't
abbrev pub pins_text : List Bool → List ℕ
pins_text pins = digits_text (map from_bool pins)

-- the lines of a Converter's table: a line of digits for each wheel, then the rows
abbrev pub pin_lines : PinTable → List (List ℕ)
pin_lines table = map pins_text table.pins ++ map letters_text table.rows

-- ---- Reading a table from its text, as the script of a page does.

-- the lines of a text
abbrev pub lines_of : List ℕ → List (List ℕ)
lines_of text = slice_split (λ byte. byte == 10) text

-- The table of a rotor machine, read from a text. The first line is `steps`, the next 26 lines are `into`, and all
-- later lines are `core`.
unfoldable pub rotor_table_in : List ℕ → RotorTable
rotor_table_in text =
    let lines = lines_of text in
    record {
      steps = map (λ byte. byte - 48) (slice_index_or lines 0 []);
      into = map letters_of (take 26 (drop 1 lines));
      core = map letters_of (drop 27 lines);
    }

-- The table of a Converter, read from a text. The first six lines are `pins`, and all later lines are `rows`.
unfoldable pub pin_table_in : List ℕ → PinTable
pin_table_in text =
    let lines = lines_of text in
    record { pins = map (map (λ byte. byte == 49)) (take 6 lines); rows = map letters_of (drop 6 lines) }

-- ---- Single lines of a table. No public contract cites these definitions.

-- A digit for each letter that a wheel can show: 1 if the acting pin is effective while this letter shows, otherwise 0.
-- The wheel has the pins `pins`. The acting pin is `offset` places after the shown letter's pin.
unfoldable pub acting_text : List Bool → ℕ → List ℕ
acting_text pins offset =
    pins_text (map (λ place. is_effective pins ((place + offset) % length pins)) (range_with_len 0 (length pins)))

-- a row of letters as a line, with an LF before it
abbrev pub row_line : List ℕ → List ℕ
row_line row = 10 ∷ letters_text row

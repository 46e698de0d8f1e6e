-- Tables that are read from their texts.
use Rattle.std.proofs.Common.{◌≡◌, ◌∙◌, ℕ, ◌+◌, ◌-◌, ◌==◌, All, Bool, false, true, List, [], ◌∷◌, ◌++◌, ap, append-nil, arith}
use Rattle.std.proofs.Common.{drop, length, map, refl, slice_index_or, take}
use Rattle.std.specs.Int.{from_bool}
use Rattle.std.specs.List.{AllByRecursion, range_with_len}
use Rattle.std.proofs.lemmas.Bool.{ne_eqb}
use Rattle.std.proofs.lemmas.List.{drop_at, length-map, take_at}
use Rattle.std.proofs.lemmas.List.Elements.{All-map}
use Rattle.std.proofs.lemmas.List.FromFn.{length-map-range_with_len}
use Rattle.std.proofs.lemmas.List.Splits.{slice_split_at, slice_split_none}
use Rattle.kd_tables.specs.Tables.{letters_of}
use Rattle.kd_tables.specs.Text.{letters_text}
use Rattle.kd_enigma.specs.Cipher.{RotorKey}
use Rattle.kd_typing.specs.Laws.{PinTablesAreRead, RotorTablesAreRead}
use Rattle.kd_typing.specs.PinTable.{PinTable, acting_pins, pin_rows}
use Rattle.kd_typing.specs.RotorTable.{RotorTable, all_steps, core_rows, into_row, into_rows}
use Rattle.kd_typing.specs.TableText.{digits_text, lines_of, lines_text, pin_table_in, pins_text}
use Rattle.kd_typing.specs.TableText.{rotor_table_in}

-- ---- lines without LF

abbrev IsLine : List ℕ → Type 0
IsLine line = All (λ byte. (byte == 10) ≡ false) line

letters_are_line : (row : List ℕ) → IsLine (letters_text row)
letters_are_line row =
    All-map (λ byte. (byte == 10) ≡ false) (λ letter. letter + 65) row (λ k d lt. ne_eqb _ 10 (λ e. absurd (omega arith)))

digits_are_line : (numbers : List ℕ) → IsLine (digits_text numbers)
digits_are_line numbers =
    All-map (λ byte. (byte == 10) ≡ false) (λ number. 48 + number) numbers
    (λ k d lt. ne_eqb _ 10 (λ e. absurd (omega arith)))

lines_are_read : (line : List ℕ) (lines : List (List ℕ)) → IsLine line → AllByRecursion IsLine lines
    → lines_of (lines_text (line ∷ lines)) ≡ line ∷ lines
lines_are_read line [] h all =
    ap lines_of (append-nil line) ∙ slice_split_none (λ byte. byte == 10) line h
lines_are_read line (next ∷ lines) h all =
    slice_split_at (λ byte. byte == 10) line 10 (lines_text (next ∷ lines)) h refl
    ∙ ap (λ rest. line ∷ rest) (lines_are_read next lines all.0 all.1)

letter_lines : (rows : List (List ℕ)) → AllByRecursion IsLine (map letters_text rows)
letter_lines [] = tt
letter_lines (row ∷ rows) = (letters_are_line row, letter_lines rows)

both_lines : (one other : List (List ℕ)) → AllByRecursion IsLine one → AllByRecursion IsLine other
    → AllByRecursion IsLine (one ++ other)
both_lines [] other h k = k
both_lines (line ∷ one) other h k = (h.0, both_lines one other h.1 k)

-- ---- a line read back

letters_back : (row : List ℕ) → letters_of (letters_text row) ≡ row
letters_back [] = refl
letters_back (letter ∷ row) =
    let first : letter + 65 - 65 ≡ letter = omega arith in λ i. first i ∷ letters_back row i

rows_back : (rows : List (List ℕ)) → map letters_of (map letters_text rows) ≡ rows
rows_back [] = refl
rows_back (row ∷ rows) = λ i. letters_back row i ∷ rows_back rows i

digits_back : (numbers : List ℕ) → map (λ byte. byte - 48) (digits_text numbers) ≡ numbers
digits_back [] = refl
digits_back (number ∷ numbers) =
    let first : 48 + number - 48 ≡ number = omega arith in λ i. first i ∷ digits_back numbers i

pin_back : (pin : Bool) → (48 + from_bool pin == 49) ≡ pin
pin_back true = refl
pin_back false = refl

pins_back : (pins : List Bool) → map (λ byte. byte == 49) (pins_text pins) ≡ pins
pins_back [] = refl
pins_back (pin ∷ pins) = λ i. pin_back pin i ∷ pins_back pins i

-- ---- tables

rotor_in_lines : List (List ℕ) → RotorTable
rotor_in_lines lines = record {
  steps = map (λ byte. byte - 48) (slice_index_or lines 0 []);
  into = map letters_of (take 26 (drop 1 lines));
  core = map letters_of (drop 27 lines);
}

read_rotor : (steps : List ℕ) (into core : List (List ℕ)) → length into ≡ 26
    → rotor_table_in (lines_text (digits_text steps ∷ map letters_text into ++ map letters_text core))
    ≡ record { into = into; core = core; steps = steps }
unfolding rotor_table_in rotor_in_lines
read_rotor steps into core size =
    let first = map letters_text into in
    let last = map letters_text core in
    let long = length-map into letters_text ∙ size in
    ap rotor_in_lines (lines_are_read (digits_text steps) (first ++ last) (digits_are_line steps)
    (both_lines first last (letter_lines into) (letter_lines core)))
    ∙ (λ i. record {
      steps = digits_back steps i;
      into = (ap (map letters_of) (take_at first last 26 long) ∙ rows_back into) i;
      core = (ap (map letters_of) (drop_at first last 26 long) ∙ rows_back core) i;
    })

into_size : (key : RotorKey) → length (into_rows key) ≡ 26
unfolding into_rows
into_size key = length-map-range_with_len (into_row key) 0 26

pub rotor_tables_are_read : RotorTablesAreRead
rotor_tables_are_read key = read_rotor (all_steps key.wheels) (into_rows key) (core_rows key) (into_size key)

pin_in_lines : List (List ℕ) → PinTable
pin_in_lines lines =
    record { pins = map (map (λ byte. byte == 49)) (take 6 lines); rows = map letters_of (drop 6 lines) }

digit_lines : (pins : List (List Bool)) → AllByRecursion IsLine (map pins_text pins)
digit_lines [] = tt
digit_lines (wheel ∷ pins) = (digits_are_line (map from_bool wheel), digit_lines pins)

wheels_back : (pins : List (List Bool)) → map (map (λ byte. byte == 49)) (map pins_text pins) ≡ pins
wheels_back [] = refl
wheels_back (wheel ∷ pins) = λ i. pins_back wheel i ∷ wheels_back pins i

read_pins : (first : List Bool) (pins : List (List Bool)) (rows : List (List ℕ)) → length pins ≡ 5
    → pin_table_in (lines_text (pins_text first ∷ map pins_text pins ++ map letters_text rows))
    ≡ record { pins = first ∷ pins; rows = rows }
unfolding pin_table_in pin_in_lines
read_pins first pins rows size =
    let digits = map pins_text pins in
    let last = map letters_text rows in
    let long = length-map pins pins_text ∙ size in
    ap pin_in_lines (lines_are_read (pins_text first) (digits ++ last) (digits_are_line (map from_bool first))
    (both_lines digits last (digit_lines pins) (letter_lines rows)))
    ∙ (λ i. record {
      pins = pins_back first i ∷ (ap (map (map (λ byte. byte == 49))) (take_at digits last 5 long) ∙ wheels_back pins) i;
      rows = (ap (map letters_of) (drop_at digits last 5 long) ∙ rows_back rows) i;
    })

pub pin_tables_are_read : PinTablesAreRead
pin_tables_are_read key = read_pins (acting_pins key 1) (map (acting_pins key) (range_with_len 2 5)) (pin_rows key) refl

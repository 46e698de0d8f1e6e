-- The row of a Converter's day is read as this day.
use Rattle.std.proofs.Common.{◌≡◌, ◌+◌, ◌<◌, ◌≤◌, ◌==◌, ◌++◌, ◌∷◌, ◌∙◌, [], ℕ, Bool, true, false, List, Some, ap, append_assoc, arith, filter, length, map, not, option_map, refl}
use Rattle.std.specs.Prelude.{codes, decimal}
use Rattle.std.specs.List.{AllByRecursion}
use Rattle.std.proofs.lemmas.Bool.{eq-eqb, le-leb}
use Rattle.std.proofs.lemmas.List.{map-id}
use Rattle.std.proofs.lemmas.List.Elements.{recursion_from_All}
unfoldable use Rattle.csv.specs.Records.{field_at}
use Rattle.kd_tables.specs.Places.{IsReading, reading_text}
unfoldable use Rattle.kd_tables.specs.Rings.{ring_of}
use Rattle.kd_tables.specs.Text.{letters_text}
use Rattle.kd_pins.specs.declared.pin_set.PinSet.{PinSet}
use Rattle.kd_sheet.proofs.ReadBack.Described.KeyValues.{letters_below, pins_of_text-pins_text, ring_letters}
use Rattle.kd_sheet.specs.Bars.{reading_of_text}
use Rattle.kd_sheet.specs.MachineText.{pins_text}
use Rattle.kd_state.specs.SheetDay.{IsLegalPinDay, Pin, PinDay}
use Rattle.kd_pictures.specs.Template.{letter_text}
use Rattle.kd_spreadsheet.specs.Items.{is_blank, joined, letters_in, normal, readings_in, ring_of_word}
use Rattle.kd_options.specs.TableOptions.{OptionTexts}
unfoldable use Rattle.kd_spreadsheet.specs.Names.{is_named, model_named}
unfoldable use Rattle.kd_spreadsheet.specs.PinRow.{pin_values, pins_in}
unfoldable use Rattle.kd_spreadsheet.specs.Row.{fits_columns, is_blank_row}
use Rattle.kd_spreadsheet.specs.Row.{row_values}
use Rattle.kd_printed_sheet.proofs.CellWords.{hyphened_cell, letters_cell, short_letters}
use Rattle.kd_printed_sheet.proofs.PlainCells.{IsPlain, IsPlainRow, line}
use Rattle.kd_printed_sheet.proofs.RotorRows.{each, every, number_again}
use Rattle.kd_printed_sheet.proofs.TableHead.{table_columns}
use Rattle.kd_printed_sheet.proofs.WordValues.{letter_first, letter_is, letter_is_byte, letter_seen, letters_plain, number_is, reading_is, reading_plain, words_plain}
unfoldable use Rattle.kd_printed_sheet.specs.CsvTable.{effective_cells, pin_line}
use Rattle.kd_printed_sheet.specs.Words.{words_text}

abbrev pub pin_cells : PinDay → List (List ℕ)
pin_cells day =
    decimal day.day ∷ codes "M-209" ∷ [] ∷ [] ∷ [] ∷ [] ∷ words_text letter_text day.window ∷ [] ∷ letters_text day.list
    ∷ pins_text (ring_of 1) day.pins.w1 ∷ pins_text (ring_of 2) day.pins.w2 ∷ pins_text (ring_of 3) day.pins.w3
    ∷ pins_text (ring_of 4) day.pins.w4 ∷ pins_text (ring_of 5) day.pins.w5 ∷ pins_text (ring_of 6) day.pins.w6
    ∷ words_text reading_text day.rows ∷ []

six_cells : (a b c d e f tail : List ℕ)
    → (44 ∷ a ++ (44 ∷ b ++ (44 ∷ c ++ (44 ∷ d ++ (44 ∷ e ++ (44 ∷ f ++ [])))))) ++ tail
    ≡ 44 ∷ (a ++ 44 ∷ (b ++ 44 ∷ (c ++ 44 ∷ (d ++ 44 ∷ (e ++ 44 ∷ (f ++ tail))))))
six_cells a b c d e f tail = simp append_assoc

-- the cells of pins, and then `tail`
pins_before : (pins : PinSet) (tail : List ℕ) → effective_cells pins ++ tail
    ≡ 44 ∷ (pins_text (ring_of 1) pins.w1 ++ 44 ∷ (pins_text (ring_of 2) pins.w2 ++ 44 ∷ (pins_text (ring_of 3) pins.w3
    ++ 44 ∷ (pins_text (ring_of 4) pins.w4 ++ 44 ∷ (pins_text (ring_of 5) pins.w5
    ++ 44 ∷ (pins_text (ring_of 6) pins.w6 ++ tail))))))
unfolding effective_cells
pins_before pins tail =
    six_cells (pins_text (ring_of 1) pins.w1) (pins_text (ring_of 2) pins.w2) (pins_text (ring_of 3) pins.w3)
    (pins_text (ring_of 4) pins.w4) (pins_text (ring_of 5) pins.w5) (pins_text (ring_of 6) pins.w6) tail

pub pin_line_is : (day : PinDay) (tail : List ℕ) → pin_line day ++ tail ≡ line (pin_cells day) tail
unfolding pin_line
pin_line_is day tail = simp (append_assoc, pins_before)

-- ---- the cells of pins

same_letters : (ring : List ℕ) (pins : List Bool) → AllByRecursion (λ letter. letter < 26) ring
    → filter (λ byte. not (byte == 32)) (map normal (pins_text ring pins)) ≡ pins_text ring pins
same_letters [] pins within = refl
same_letters (letter ∷ ring) [] within = refl
same_letters (letter ∷ ring) (false ∷ pins) within = same_letters ring pins within.1
same_letters (letter ∷ ring) (true ∷ pins) within =
    let is = letter_is_byte letter within.0 in
    rw (is.gap, is.same, is.no_space, same_letters ring pins within.1) refl

pins_short : (ring : List ℕ) (pins : List Bool) → length (pins_text ring pins) ≤ length ring
pins_short [] pins = omega arith
pins_short (letter ∷ ring) [] = omega arith
pins_short (letter ∷ ring) (false ∷ pins) = omega (arith, pins_short ring pins)
pins_short (letter ∷ ring) (true ∷ pins) = omega (arith, pins_short ring pins)

pins_plain : (ring : List ℕ) (pins : List Bool) → AllByRecursion (λ letter. letter < 26) ring → IsPlain (pins_text ring pins)
pins_plain [] pins within = refl
pins_plain (letter ∷ ring) [] within = refl
pins_plain (letter ∷ ring) (false ∷ pins) within = pins_plain ring pins within.1
pins_plain (letter ∷ ring) (true ∷ pins) within =
    rw ((letter_is_byte letter within.0).plain, pins_plain ring pins within.1) refl

ring_short : (wheel : ℕ) → length (ring_of wheel) ≤ 26
unfolding ring_of
ring_short wheel = grind arith

ring_within : (wheel : ℕ) → AllByRecursion (λ letter. letter < 26) (ring_of wheel)
ring_within wheel = recursion_from_All (λ letter. letter < 26) (ring_of wheel) (ring_letters wheel)

joined_again : (wheel : ℕ) (pins : List Bool) → joined (pins_text (ring_of wheel) pins) ≡ Some (pins_text (ring_of wheel) pins)
joined_again wheel pins =
    rw (
      le-leb (length (pins_text (ring_of wheel) pins)) 192 (omega (arith, pins_short (ring_of wheel) pins, ring_short wheel)),
      same_letters (ring_of wheel) pins (ring_within wheel),
    ) refl

-- ---- the window, the letters of the list, and the bars

window_again : (window : List ℕ) → AllByRecursion (λ letter. letter < 26) window → length window ≤ 6
    → letters_in (words_text letter_text window) ≡ Some window
window_again window within few =
    letters_cell ring_of_word letter_text (λ letter. letter) window (omega arith)
    (each (λ letter. length (letter_text letter) ≤ 5) (λ letter. omega arith) window)
    (every _ _ letter_is window within)
    ∙ ap Some (map-id window)

window_seen : (window : List ℕ) → AllByRecursion (λ letter. letter < 26) window → 1 ≤ length window
    → is_blank (words_text letter_text window) ≡ false
window_seen [] within some = absurd (omega arith)
window_seen (letter ∷ window) within some = rw (letter_seen letter within.0) refl

list_again : (list : List ℕ) → AllByRecursion (λ letter. letter < 26) list → length list ≡ 2
    → letters_in (letters_text list) ≡ Some list
list_again [] within count = absurd (omega arith)
list_again (a ∷ []) within count = absurd (omega arith)
list_again (a ∷ b ∷ c ∷ more) within count = absurd (omega arith)
list_again (a ∷ b ∷ []) within count =
    short_letters ring_of_word (letters_text (a ∷ b ∷ [])) (omega arith)
    ∙ letter_first a ((b + 65) ∷ []) within.0
    ∙ ap (option_map (λ values. a ∷ values)) (letter_first b [] within.1.0)

rows_again : (rows : List (ℕ × ℕ)) → AllByRecursion IsReading rows → length rows ≡ 27
    → readings_in (words_text reading_text rows) ≡ Some rows
rows_again [] are count = absurd (omega arith)
rows_again (row ∷ rows) are count =
    hyphened_cell reading_of_text reading_text (λ reading. reading) row rows (omega arith)
    (each (λ reading. length (reading_text reading) ≤ 5) (λ reading. omega arith) (row ∷ rows))
    (every _ _ reading_is (row ∷ rows) are)
    ∙ ap Some (map-id (row ∷ rows))

-- ---- the row

-- What a legal day's parts are, part by part.
record HasParts (day : PinDay) : Type 0 where
  number : day.day ≤ 31
  window : AllByRecursion (λ letter. letter < 26) day.window
  six : length day.window ≡ 6
  list : AllByRecursion (λ letter. letter < 26) day.list
  two : length day.list ≡ 2
  rows : AllByRecursion IsReading day.rows
  all_rows : length day.rows ≡ 27

has_parts : (day : PinDay) → IsLegalPinDay day → HasParts day
has_parts day legal = record {
  number = legal.day.last;
  window = recursion_from_All (λ letter. letter < 26) day.window (letters_below day.window legal.window);
  six = legal.window.count;
  list = recursion_from_All (λ letter. letter < 26) day.list legal.list.within;
  two = legal.list.count;
  rows = recursion_from_All IsReading day.rows legal.rows;
  all_rows = legal.count;
}

pins_again : (day : PinDay) → IsLegalPinDay day → pins_in (table_columns true).pins (pin_cells day) ≡ Some day.pins
unfolding pins_in field_at
pins_again day legal =
    rw (
      joined_again 1 day.pins.w1,
      pins_of_text-pins_text 1 day.pins.w1 (legal.pins 1),
      joined_again 2 day.pins.w2,
      pins_of_text-pins_text 2 day.pins.w2 (legal.pins 2),
      joined_again 3 day.pins.w3,
      pins_of_text-pins_text 3 day.pins.w3 (legal.pins 3),
      joined_again 4 day.pins.w4,
      pins_of_text-pins_text 4 day.pins.w4 (legal.pins 4),
      joined_again 5 day.pins.w5,
      pins_of_text-pins_text 5 day.pins.w5 (legal.pins 5),
      joined_again 6 day.pins.w6,
      pins_of_text-pins_text 6 day.pins.w6 (legal.pins 6),
    ) refl

pin_again : (options : OptionTexts) (day : PinDay) → IsLegalPinDay day → HasParts day
    → pin_values options (table_columns true) (pin_cells day) ≡ Some day
unfolding pin_values field_at
pin_again options day legal has =
    let six = has.six in
    rw (
      number_again day.day has.number,
      list_again day.list has.list has.two,
      eq-eqb (length day.list) 2 has.two,
      pins_again day legal,
      window_seen day.window has.window (omega arith),
      window_again day.window has.window (omega arith),
      eq-eqb (length day.window) 6 has.six,
      rows_again day.rows has.rows has.all_rows,
      eq-eqb (length day.rows) 27 has.all_rows,
    ) refl

pub pin_row : (options : OptionTexts) (day : PinDay) → IsLegalPinDay day
    → row_values options (table_columns true) (pin_cells day) ≡ Some (Pin day)
unfolding field_at fits_columns is_named model_named
pin_row options day legal = ap (option_map Pin) (pin_again options day legal (has_parts day legal))

pub pin_seen : (day : PinDay) → IsLegalPinDay day → is_blank_row (table_columns true) (pin_cells day) ≡ false
unfolding field_at is_blank_row
pin_seen day legal = let last = legal.day.last in rw (number_is day.day (omega arith)).seen refl

pub pin_plain : (day : PinDay) → IsLegalPinDay day → IsPlainRow (pin_cells day)
pin_plain day legal =
    let has = has_parts day legal in
    let number = has.number in
    let letters = every _ _ (λ letter within. letters_plain (letter ∷ []) (within, tt)) day.window has.window in
    let wheel = λ (n : ℕ) (pins : List Bool). pins_plain (ring_of n) pins (ring_within n) in (
      (number_is day.day (omega arith)).plain,
      (
        refl,
        (
          refl,
          (
            refl,
            (
              refl,
              (
                refl,
                (
                  words_plain letter_text day.window letters,
                  (
                    refl,
                    (
                      letters_plain day.list has.list,
                      (
                        wheel 1 day.pins.w1,
                        (
                          wheel 2 day.pins.w2,
                          (
                            wheel 3 day.pins.w3,
                            (
                              wheel 4 day.pins.w4,
                              (
                                wheel 5 day.pins.w5,
                                (wheel 6 day.pins.w6, (words_plain reading_text day.rows (every _ _ reading_plain day.rows has.rows), tt)),
                              ),
                            ),
                          ),
                        ),
                      ),
                    ),
                  ),
                ),
              ),
            ),
          ),
        ),
      ),
    )

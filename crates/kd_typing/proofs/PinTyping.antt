-- Typing on the table of a Converter.
use Rattle.std.proofs.Common.{◌≡◌, ◌∙◌, ℕ, ◌+◌, ◌-◌, ◌/◌, ◌%◌, ◌^◌, ◌<◌, ◌≤◌, ◌&&◌, ◌||◌, Bool, false, List, [], ◌∷◌}
use Rattle.std.proofs.Common.{ap, arith, eqb, leb, length, map, refl, slice_index, slice_index_or, sym}
use Rattle.std.proofs.lemmas.Bool.Decides.{nat_tests}
use Rattle.std.proofs.lemmas.List.Elements.{All-head, All-tail}
use Rattle.std.proofs.lemmas.List.FromFn.{get_or-map-range_with_len}
use Rattle.std.specs.Int.{from_bool}
use Rattle.kd_tables.specs.Rings.{ring_of}
use Rattle.kd_pins.specs.PinWheel.{is_effective}
use Rattle.kd_pins.specs.PinWheels.{acting_offset, pin_wheels, pins_on}
use Rattle.kd_drum.specs.Converter.{PinKey, bars_met, is_acting_after, pin_key_turned, shown_place}
use Rattle.kd_drum.proofs.Ciphers.{cipher_in_turn}
use Rattle.kd_drum.proofs.WheelsAfterLetters.{count_alike, each_wheel, has_places}
use Rattle.kd_typing.specs.Laws.{TypingOnPinTable}
use Rattle.kd_typing.specs.PinTable.{acting_pins, acts_by, bars_met_in_row, binary, is_in_row, next_on_wheel}
use Rattle.kd_typing.specs.PinTable.{pin_row, pin_rows, pin_table, printed_by}

-- ---- sets of wheels as binary numbers

bit_is : (b : Bool) (n : ℕ) → n ≡ from_bool b → eqb n 1 ≡ b
bit_is b n e = grind arith

at_most_one : (b : Bool) → from_bool b ≤ 1
at_most_one b = grind arith

set_within : (acts : ℕ → Bool) → binary (map acts pin_wheels) < 64
set_within acts =
    omega (
      arith,
      at_most_one (acts 1),
      at_most_one (acts 2),
      at_most_one (acts 3),
      at_most_one (acts 4),
      at_most_one (acts 5),
      at_most_one (acts 6),
    )

-- The digit of each wheel is 1 exactly if its test is true.
digits_are : (acts : ℕ → Bool) (wheel : ℕ) → 1 ≤ wheel → wheel ≤ 6
    → eqb (binary (map acts pin_wheels) / 2 ^ (6 - wheel) % 2) 1 ≡ acts wheel
digits_are acts =
    let all = binary (map acts pin_wheels) in
    let m1 = at_most_one (acts 1) in
    let m2 = at_most_one (acts 2) in
    let m3 = at_most_one (acts 3) in
    let m4 = at_most_one (acts 4) in
    let m5 = at_most_one (acts 5) in
    let m6 = at_most_one (acts 6) in
    each_wheel (λ n. eqb (all / 2 ^ (6 - n) % 2) 1 ≡ acts n)
    (bit_is (acts 1) (all / 32 % 2) (omega arith)) (bit_is (acts 2) (all / 16 % 2) (omega arith))
    (bit_is (acts 3) (all / 8 % 2) (omega arith)) (bit_is (acts 4) (all / 4 % 2) (omega arith))
    (bit_is (acts 5) (all / 2 % 2) (omega arith)) (bit_is (acts 6) (all / 1 % 2) (omega arith))

in_row_of : (acts : ℕ → Bool) (wheel : ℕ)
    → is_in_row (binary (map acts pin_wheels)) wheel ≡ ((leb 1 wheel && leb wheel 6) && acts wheel)
in_row_of acts wheel = grind (arith, nat_tests, digits_are acts wheel)

-- ---- the pins

-- Each wheel shows one of its places.
place_within : (letters : List ℕ) (wheel : ℕ) → 1 ≤ wheel → wheel ≤ 6
    → shown_place letters wheel < length (ring_of wheel)
place_within letters wheel low high = grind (arith, nat_tests, has_places wheel low high)

acts_in_table : (key : PinKey) (letters : List ℕ) (wheel : ℕ) → 1 ≤ wheel → wheel ≤ 6
    → acts_by (pin_table key) letters wheel
    ≡ is_effective (pins_on key.pins wheel)
    ((shown_place letters wheel + acting_offset wheel) % length (ring_of wheel))
unfolding acting_pins
acts_in_table key letters wheel low high =
    ap (λ pins. slice_index_or pins (shown_place letters wheel) false)
    (get_or-map-range_with_len (acting_pins key) 1 6 (wheel - 1) wheel [] (omega arith) (omega arith))
    ∙ get_or-map-range_with_len (λ place. is_effective (pins_on key.pins wheel)
    ((place + acting_offset wheel) % length (ring_of wheel))) 0 (length (ring_of wheel)) (shown_place letters wheel)
    (shown_place letters wheel) false (place_within letters wheel low high) (omega arith)

-- The wheels of the row are those that act.
row_acts : (key : PinKey) (letters : List ℕ) (wheel : ℕ)
    → is_in_row (binary (map (acts_by (pin_table key) letters) pin_wheels)) wheel
    ≡ is_acting_after key.pins letters 0 wheel
row_acts key letters wheel =
    in_row_of (acts_by (pin_table key) letters) wheel ∙ grind (arith, nat_tests, acts_in_table key letters wheel)

met_in_row : (key : PinKey) (letters : List ℕ)
    → bars_met_in_row key.bars (binary (map (acts_by (pin_table key) letters) pin_wheels))
    ≡ bars_met (pin_key_turned key letters) 0
met_in_row key letters =
    count_alike _ _ key.bars (λ bar i. row_acts key letters bar.0 i || row_acts key letters bar.1 i)

-- ---- a text

printed_is : (key : PinKey) (letters : List ℕ) (letter : ℕ) → letter < 26
    → printed_by (pin_table key) letters letter ≡ (25 + bars_met (pin_key_turned key letters) 0 - letter) % 26
unfolding pin_row pin_rows
printed_is key letters letter lt =
    let number = binary (map (acts_by (pin_table key) letters) pin_wheels) in
    ap (λ row. slice_index row letter)
    (get_or-map-range_with_len (pin_row key) 0 64 number number [] (set_within (acts_by (pin_table key) letters))
    (omega arith))
    ∙ get_or-map-range_with_len (λ l. (25 + bars_met_in_row key.bars number - l) % 26) 0 26 letter letter 0 lt
    (omega arith)
    ∙ ap (λ met. (25 + met - letter) % 26) (met_in_row key letters)

pub typing_on_pin_table : TypingOnPinTable
typing_on_pin_table key letters [] within = refl
typing_on_pin_table key letters (letter ∷ text) within =
    (λ i. printed_is key letters letter (All-head (λ l. l < 26) letter text within) i
    ∷ typing_on_pin_table key (map (next_on_wheel letters) pin_wheels) text (All-tail (λ l. l < 26) letter text within) i)
    ∙ sym (cipher_in_turn (pin_key_turned key letters) (letter ∷ []) text)

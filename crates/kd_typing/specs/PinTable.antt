-- The table of a Converter M-209, in which typing looks up letters. Wheels are numbered from 1 to 6.
-- Source: War Department TM 11-380
use Rattle.std.specs.Prelude.{ℕ, ◌+◌, ◌-◌, ◌*◌, ◌/◌, ◌%◌, ◌^◌, nat_eq, nat_le, Bool, false, ◌&&◌, ◌||◌, List, [], ◌∷◌}
use Rattle.std.specs.Prelude.{length, map, slice_index, slice_index_or}
use Rattle.std.specs.Int.{from_bool}
use Rattle.std.specs.List.{count_by, range_with_len}
use Rattle.kd_tables.specs.Permutation.{alphabet}
use Rattle.kd_tables.specs.Rings.{ring_of}
use Rattle.kd_pins.specs.PinWheel.{is_effective}
use Rattle.kd_pins.specs.PinWheels.{acting_offset, pin_wheels, pins_on}
use Rattle.kd_drum.specs.Converter.{PinKey, shown_place}

-- The table of a Converter.
-- - `pins` has a list for each wheel. For each letter, in the wheel's order, the list says whether the acting pin is
--   effective while the wheel shows this letter.
-- - `rows` has a row for each set of wheels. The row has the letters that are printed for A to Z if exactly these
--   wheels have an effective acting pin.
-- - The number of a row has six binary digits, for wheels 1 to 6; 1 means that the set has the wheel.
pub record PinTable : Type 0 where
  pub rows : List (List ℕ)
  pub pins : List (List Bool)

-- ---- Typing on a table.

-- the number whose binary digits are the items of the list: 1 for `true`, 0 for `false`
abbrev pub binary : List Bool → ℕ
binary [] = 0
binary (digit ∷ digits) = from_bool digit * 2 ^ length digits + binary digits

-- whether the acting pin of wheel `wheel` is effective while the wheels show `letters`
abbrev pub acts_by : PinTable → List ℕ → ℕ → Bool
acts_by table letters wheel =
    slice_index_or (slice_index_or table.pins (wheel - 1) []) (shown_place letters wheel) false

-- the letter that is printed for `letter` while the wheels show `letters`
abbrev pub printed_by : PinTable → List ℕ → ℕ → ℕ
printed_by table letters letter =
    slice_index (slice_index_or table.rows (binary (map (acts_by table letters) pin_wheels)) []) letter

-- The letter that follows the shown letter of wheel `wheel`, in the order of the letters on the wheel. After the
-- wheel's last letter comes its first letter.
abbrev pub next_on_wheel : List ℕ → ℕ → ℕ
next_on_wheel letters wheel =
    slice_index (ring_of wheel) ((shown_place letters wheel + 1) % length (ring_of wheel))

-- The letters that are printed for `text`, one after another. At first, the wheels show `letters`. After each printed
-- letter, every wheel moves to its next letter.
abbrev pub printed_text : PinTable → List ℕ → List ℕ → List ℕ
printed_text table letters [] = []
printed_text table letters (letter ∷ text) =
    printed_by table letters letter ∷ printed_text table (map (next_on_wheel letters) pin_wheels) text

-- ---- The table of a key.

-- Whether `wheel` is from 1 to 6, and is in set number `number`. In binary, the number has six digits, for the wheels
-- 1 to 6. For example, 110000 is the set of the wheels 1 and 2.
abbrev pub is_in_row : ℕ → ℕ → Bool
is_in_row number wheel = (nat_le 1 wheel && nat_le wheel 6) && nat_eq (number / 2 ^ (6 - wheel) % 2) 1

-- The number of bars with a lug at some wheel of the set `number`. The set's number has six binary digits, for wheels 1
-- to 6. For example, 110000 is the set of the wheels 1 and 2.
abbrev pub bars_met_in_row : List (ℕ × ℕ) → ℕ → ℕ
bars_met_in_row bars number = count_by (λ bar. is_in_row number bar.0 || is_in_row number bar.1) bars

-- The letters that are printed for A to Z while exactly the wheels of the set `number` have an effective acting pin.
-- The set's number has six binary digits, for wheels 1 to 6. For example, 110000 is the set of the wheels 1 and 2.
unfoldable pub pin_row : PinKey → ℕ → List ℕ
pin_row key number = map (λ letter. (25 + bars_met_in_row key.bars number - letter) % 26) alphabet

-- for each letter of wheel `wheel`, whether the acting pin is effective while the wheel shows this letter
unfoldable pub acting_pins : PinKey → ℕ → List Bool
acting_pins key wheel =
    map (λ place. is_effective (pins_on key.pins wheel) ((place + acting_offset wheel) % length (ring_of wheel)))
    (range_with_len 0 (length (ring_of wheel)))

unfoldable pub pin_rows : PinKey → List (List ℕ)
pin_rows key = map (pin_row key) (range_with_len 0 64)

-- the table of a Converter with the key `key`
abbrev pub pin_table : PinKey → PinTable
pin_table key = record { rows = pin_rows key; pins = map (acting_pins key) pin_wheels }

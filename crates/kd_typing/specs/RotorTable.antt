-- The table of a rotor machine, in which typing looks up letters. At each key press, the right wheel moves, but the
-- other wheels move seldom. So the path of the current is cut into two parts. The first part leads in through the
-- plugboard and the right wheel. The second part leads through the core: everything to the left of the right wheel.
-- Source: the published accounts of the current's path and of the stepping.
use Rattle.std.specs.Prelude.{◌≡◌, ℕ, zero, suc, ◌+◌, ◌-◌, ◌*◌, ◌/◌, ◌%◌, ◌^◌, ◌<◌, ◌≤◌, ◌==◌, Bool, false, List, [], ◌∷◌}
use Rattle.std.specs.Prelude.{length, map, take, drop, slice_get, slice_index, slice_index_or, All, if◌then◌else◌}
use Rattle.std.specs.List.{position_or_len, range_with_len}
use Rattle.std.specs.Option.{option_map_or}
use Rattle.kd_tables.specs.Permutation.{alphabet, exchange}
use Rattle.kd_tables.specs.Tables.{is_notch}
use Rattle.kd_tables.specs.declared.wheel.Wheel.{Wheel}
use Rattle.kd_step.specs.Stepper.{with_last_moved}
use Rattle.kd_enigma.specs.Cipher.{RotorKey, IsPlugboard, path, product, rotors}

-- The table of a rotor machine.
-- - `into` has a row for each letter in the right window. The row says which place each key's current reaches through
--   the plugboard and the right wheel.
-- - `core` has a row for each combination of letters in the other windows. The row says at which place the current
--   comes out of the core, for each place at which it enters.
-- - `steps` has a number for each pair of letters in the middle and the right window. The number says how many wheels
--   move at the next key press.
pub record RotorTable : Type 0 where
  pub into : List (List ℕ)
  pub core : List (List ℕ)
  pub steps : List ℕ

-- ---- Typing on a table.

-- the items for all slots except the right slot; an item is, for example, a slot's wheel or ring
abbrev pub core_slots : {X : Type 0} → List X → List X
core_slots slots = take (length slots - 1) slots

abbrev pub right_slot : {X : Type 0} → List X → List X
right_slot slots = drop (length slots - 1) slots

-- The letter in the window `from_right`: 0 is the right window, and 1 is the middle window.
abbrev pub letter_in : List ℕ → ℕ → ℕ
letter_in window from_right = slice_index window (length window - (from_right + 1))

-- The number of the row in `core` that belongs to these window letters. The letters are the number's digits in base 26:
-- BB, for example, is 27.
abbrev pub row_number : List ℕ → ℕ
row_number [] = 0
row_number (letter ∷ letters) = letter * 26 ^ length letters + row_number letters

-- the window letters after the next key press
abbrev pub window_by : RotorTable → List ℕ → List ℕ
window_by table window =
    with_last_moved (slice_index table.steps (26 * letter_in window 1 + letter_in window 0)) window

-- The letter that lights up for `key` while the windows show `window`. The current of `key` comes out of the core at
-- some place. The letter that lights up is the one whose own key would send current into the core at this place.
abbrev pub lamp_by : RotorTable → List ℕ → ℕ → ℕ
lamp_by table window key =
    let into = slice_index_or table.into (letter_in window 0) [] in
    let core = slice_index_or table.core (row_number (core_slots window)) [] in
    position_or_len (λ letter. letter == slice_index core (slice_index into key)) into

-- The letters that light up for the keys of `text`, one after another. At first, the windows show `window`. At each key
-- press, wheels move before the lamp lights up.
abbrev pub typed_by : RotorTable → List ℕ → List ℕ → List ℕ
typed_by table window [] = []
typed_by table window (key ∷ text) =
    let turned = window_by table window in lamp_by table turned key ∷ typed_by table turned text

-- ---- The table of a key.

-- For each key, the place that the key's current reaches through the plugboard and the right wheel. The right window
-- shows `letter`.
unfoldable pub into_row : RotorKey → ℕ → List ℕ
into_row key letter = product (key.plugs ∷ rotors (right_slot key.wheels) (right_slot key.rings) (letter ∷ []))

-- the key of the core: the machine without its right wheel and its cables
abbrev pub core_key : RotorKey → RotorKey
core_key key = record {
  wheels = core_slots key.wheels;
  rings = core_slots key.rings;
  window = core_slots key.window;
  reflector = key.reflector;
  plugs = exchange [];
}

-- For each place at which the current can enter the core, the place at which it comes out. The core's windows show
-- `window`.
unfoldable pub core_row : RotorKey → List ℕ → List ℕ
core_row key window = path (core_key key) window

-- the `count` window letters for row `number` of the core: the last `count` digits of `number` in base 26
abbrev pub letters_with_number : ℕ → ℕ → List ℕ
letters_with_number zero number = []
letters_with_number (suc count) number = number / 26 ^ count % 26 ∷ letters_with_number count number

-- Whether the wheel `from_right` is at a notch while its window shows `letter`: 0 is the right wheel, and 1 is the
-- middle wheel.
abbrev pub is_at_notch : List Wheel → ℕ → ℕ → Bool
is_at_notch wheels from_right letter =
    option_map_or (λ wheel. is_notch wheel letter) (slice_get wheels (length wheels - (from_right + 1))) false

-- How many wheels move at the next key press. The middle window shows `middle`, and the right window shows `right`.
unfoldable pub wheels_moved : List Wheel → ℕ → ℕ → ℕ
wheels_moved wheels middle right =
    if is_at_notch wheels 1 middle then 3 else (if is_at_notch wheels 0 right then 2 else 1)

-- how many rows the table has for the core
abbrev pub core_size : RotorKey → ℕ
core_size key = 26 ^ (length key.wheels - 1)

unfoldable pub into_rows : RotorKey → List (List ℕ)
into_rows key = map (into_row key) alphabet

unfoldable pub core_rows : RotorKey → List (List ℕ)
core_rows key =
    map (λ number. core_row key (letters_with_number (length key.wheels - 1) number)) (range_with_len 0 (core_size key))

unfoldable pub all_steps : List Wheel → List ℕ
all_steps wheels = map (λ number. wheels_moved wheels (number / 26) (number % 26)) (range_with_len 0 676)

-- the table of a rotor machine with the key `key`
abbrev pub rotor_table : RotorKey → RotorTable
rotor_table key = record { into = into_rows key; core = core_rows key; steps = all_steps key.wheels }

-- The machine with the key `key` has three or four slots and a legal plugboard. Its windows, one for each slot, can
-- show the letters `window`.
pub record CanShow (key : RotorKey) (window : List ℕ) : Type 0 where
  pub least : 3 ≤ length key.wheels
  pub most : length key.wheels ≤ 4
  pub rings : length key.rings ≡ length key.wheels
  pub slots : length window ≡ length key.wheels
  pub letters : All (λ letter. letter < 26) window
  pub plugs : IsPlugboard key.plugs

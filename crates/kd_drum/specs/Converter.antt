-- The cipher of the Converter M-209. The cipher reverses each letter (A becomes Z), and moves the result on by the
-- number of bars that the wheels meet. Wheels are numbered from 1 to 6. Letters of a text and places of a wheel are
-- counted from 0.
-- Source: War Department TM 11-380.
-- Code: `Converter` turns its wheels at each letter. A table says for each of the 64 sets of wheels how many bars they
-- meet.
-- Test: bars_are_met, tests/cases/desk-files.toml
use Rattle.std.specs.Prelude.{ℕ, ◌+◌, ◌-◌, ◌%◌, ◌≤◌, nat_le, Bool, ◌&&◌, ◌||◌, List, length, map, slice_index}
use Rattle.std.specs.Prelude.{Contains, unwrap_or}
use Rattle.std.specs.List.{count_by, enumerate_from}
use Rattle.kd_tables.specs.Rings.{ring_of, place_on}
use Rattle.kd_pins.specs.PinWheel.{is_effective}
use Rattle.kd_pins.specs.PinWheels.{pin_wheels, pins_on, acting_offset}

-- A key of the Converter. `pins`: which pins of its six wheels are effective. `letters`: the letters that the wheels
-- show. `bars`: for each bar, the numbers of the wheels at its two lugs, in either order. A lug at no wheel has the
-- number 0.
pub record PinKey : Type 0 where
  pub pins : List (List Bool)
  pub letters : List ℕ
  pub bars : List (ℕ × ℕ)

-- `key`, with the six wheels turned to `letters`
abbrev pub pin_key_turned : PinKey → List ℕ → PinKey
pin_key_turned key letters = record key { letters = letters }

-- Each of the six letters is on its wheel: the first letter on wheel 1, and so on.
abbrev pub IsEachOnItsWheel : List ℕ → Type 0
IsEachOnItsWheel letters = (wheel : ℕ) → 1 ≤ wheel → wheel ≤ 6
    → Contains (ring_of wheel) (slice_index letters (wheel - 1))

-- the place of the letter that wheel `wheel` shows, counted from 0; or 0 if the wheel lacks this letter. `letters` are
-- the letters that the six wheels show, from wheel 1 on.
abbrev pub shown_place : List ℕ → ℕ → ℕ
shown_place letters wheel = unwrap_or (place_on (ring_of wheel) (slice_index letters (wheel - 1))) 0

-- whether the acting pin of wheel `wheel` is effective after `count` letters are enciphered; `letters` are the letters
-- that the wheels show at the start
abbrev pub is_acting_after : List (List Bool) → List ℕ → ℕ → ℕ → Bool
is_acting_after pins letters count wheel =
    (nat_le 1 wheel && nat_le wheel 6) && is_effective (pins_on pins wheel)
    ((shown_place letters wheel + count + acting_offset wheel) % length (ring_of wheel))

-- the number of bars that the wheels meet for the letter after the first `count` letters. A bar is met if it has a lug
-- at a wheel with an effective acting pin.
abbrev pub bars_met : PinKey → ℕ → ℕ
bars_met key count =
    let acts = is_acting_after key.pins key.letters count in count_by (λ bar. acts bar.0 || acts bar.1) key.bars

-- The ciphertext of `text`. Each letter is reversed (A becomes Z), and then moved on by the number of bars met.
abbrev pub converter_cipher : PinKey → List ℕ → List ℕ
converter_cipher key text = map (λ numbered. (25 + bars_met key numbered.0 - numbered.1) % 26) (enumerate_from 0 text)

-- the letter that wheel `wheel` shows after `count` letters; the wheel turns by one place for each letter
abbrev pub letter_after : PinKey → ℕ → ℕ → ℕ
letter_after key count wheel = slice_index (ring_of wheel)
    ((shown_place key.letters wheel + count) % length (ring_of wheel))

-- the key after `count` letters are enciphered; each letter turns all wheels by one place
abbrev pub pin_key_after : PinKey → ℕ → PinKey
pin_key_after key count = pin_key_turned key (map (letter_after key count) pin_wheels)

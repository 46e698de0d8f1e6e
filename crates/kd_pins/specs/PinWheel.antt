-- One pin wheel and its acting pin. The letter that the wheel shows decides which of the wheel's pins acts on the
-- drum. Places are counted from 0, in the wheel's own order.
-- Source: War Department TM 11-380.
-- Code: `PinWheel` keeps the acting pin's place, and counts back from there to find the shown letter.
-- Test: the_acting_pin_is_counted_in_the_wheels_own_order
use Rattle.std.specs.Prelude.{◌≡◌, ℕ, ◌+◌, ◌-◌, ◌%◌, ◌<◌, Bool, false, List, slice_index, slice_index_or, unwrap_or}
use Rattle.kd_tables.specs.Rings.{IsRing, place_on}

-- A pin wheel as contracts see it. `ring`: its letters in order. `offset`: how many places the acting pin is past the
-- shown letter. `pins`: which pins are effective. `place`: the place of the shown letter.
pub record TurnedWheel : Type 0 where
  pub ring : List ℕ
  pub offset : ℕ
  pub pins : List Bool
  pub place : ℕ

-- The wheel has `size` places, with a different letter at each. Its fields `place` and `offset` are below `size`.
pub record IsWheel (size : ℕ) (wheel : TurnedWheel) : Type 0 where
  pub ring : IsRing size wheel.ring
  pub offset : wheel.offset < size
  pub place : wheel.place < size

-- the place `by` places after `place`, on a wheel of `size` places; place 0 follows the last place
abbrev pub place_past : ℕ → ℕ → ℕ → ℕ
place_past size place by = (place + by) % size

-- whether the pin at `place` is effective
abbrev pub is_effective : List Bool → ℕ → Bool
is_effective pins place = slice_index_or pins place false

-- the letter that the wheel shows
abbrev pub letter_shown : TurnedWheel → ℕ
letter_shown wheel = slice_index wheel.ring wheel.place

-- whether the wheel's acting pin is effective
abbrev pub is_acting_pin_effective : ℕ → TurnedWheel → Bool
is_acting_pin_effective size wheel = is_effective wheel.pins (place_past size wheel.place wheel.offset)

-- the wheel turned so that it shows the letter at `place`
abbrev pub wheel_at_place : TurnedWheel → ℕ → TurnedWheel
wheel_at_place wheel place = record wheel { place = place }

-- the wheel turned so that it shows `letter`; unchanged if the wheel lacks the letter
abbrev pub wheel_showing : TurnedWheel → ℕ → TurnedWheel
wheel_showing wheel letter = wheel_at_place wheel (unwrap_or (place_on wheel.ring letter) wheel.place)

-- ---- What the code keeps. No public contract cites these definitions.

-- the place of the shown letter, `offset` places before the acting pin's place `acting`. The last place comes before
-- place 0. For example, on 26 places, with the acting pin at place 3 and the offset 15, it is place 14.
abbrev pub shown_place_at_acting : ℕ → ℕ → ℕ → ℕ
shown_place_at_acting size acting offset = place_past size acting (size - offset)

-- The acting pin is at place `acting`, `offset` places past the shown letter. Both `acting` and `offset` are below
-- `size`.
pub record ActsAt (size acting offset : ℕ) : Type 0 where
  pub inside : offset < size
  pub there : acting < size
  pub past : place_past size (shown_place_at_acting size acting offset) offset ≡ acting

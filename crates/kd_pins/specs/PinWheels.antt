-- The six pin wheels of the Converter M-209, numbered from 1 to 6.
-- Source: War Department TM 11-380.
-- Test: bars_are_met
use Rattle.std.specs.Prelude.{ℕ, ◌-◌, Bool, List, [], ◌∷◌, slice_index, slice_index_or}
use Rattle.std.specs.List.{range_with_len}
use Rattle.kd_pins.specs.declared.pin_set.PinSet.{PinSet}

-- the numbers of the pin wheels, from 1 to 6
abbrev pub pin_wheels : List ℕ
pin_wheels = range_with_len 1 6

-- how many places a wheel's acting pin is past the shown letter: 15 places on wheel 1, and 10 on wheel 6
abbrev pub acting_offset : ℕ → ℕ
acting_offset wheel = slice_index (15 ∷ 14 ∷ 13 ∷ 12 ∷ 11 ∷ 10 ∷ []) (wheel - 1)

-- which pins are effective, wheel by wheel
abbrev pub pins_of : PinSet → List (List Bool)
pins_of pins = pins.w1 ∷ pins.w2 ∷ pins.w3 ∷ pins.w4 ∷ pins.w5 ∷ pins.w6 ∷ []

-- which pins of wheel `wheel` are effective, in the wheel's order; empty if `pins` has no such wheel
abbrev pub pins_on : List (List Bool) → ℕ → List Bool
pins_on pins wheel = slice_index_or pins (wheel - 1) []

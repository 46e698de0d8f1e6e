-- The pins of the Converter's six wheels, by wheel number and letter.
use Rattle.std.specs.Prelude.{ℕ, ◌-◌, Bool, List, [], slice_get, slice_set, slice_index_or, Option, unwrap_or}
use Rattle.std.specs.Option.{option_and_then}
use Rattle.kd_tables.specs.Rings.{ring_of, place_on}
use Rattle.kd_pins.specs.declared.pin_set.PinSet.{PinSet}
use Rattle.kd_pins.specs.PinWheels.{pins_of}
use Rattle.kd_state.specs.SameParts.{numbered_item}

-- the pins of pin wheel `wheel`, in the wheel's order; no pins if no wheel has this number
abbrev pub wheel_pins : PinSet → ℕ → List Bool
wheel_pins pins wheel = unwrap_or (numbered_item (pins_of pins) wheel) []

-- whether the pin at `letter` of pin wheel `wheel` is effective; `None` if the wheel lacks the letter
abbrev pub pin_at : PinSet → ℕ → ℕ → Option Bool
pin_at pins wheel letter = option_and_then (slice_get (wheel_pins pins wheel)) (place_on (ring_of wheel) letter)

-- the pins of the six pin wheels, from six lists: one list for each wheel
abbrev pub pin_set : List (List Bool) → PinSet
pin_set lists =
    let at = λ (place : ℕ). slice_index_or lists place [] in
    record { w1 = at 0; w2 = at 1; w3 = at 2; w4 = at 3; w5 = at 4; w6 = at 5 }

-- `pins` after the pin at `letter` of wheel `wheel` is made effective or ineffective
abbrev pub with_pin : PinSet → ℕ → ℕ → Bool → PinSet
with_pin pins wheel letter effective =
    pin_set (slice_set (pins_of pins) (wheel - 1)
    (slice_set (wheel_pins pins wheel) (unwrap_or (place_on (ring_of wheel) letter) 0) effective))

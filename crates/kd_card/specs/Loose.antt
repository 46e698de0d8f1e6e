-- The settings for loose things, in a fixed order. A loose thing is a slot, reflector, ring, pin or letter that isn't
-- as the day says. Cables and bars don't count as loose things.
use Rattle.kd_pins.specs.PinWheels.{pins_of}
use Rattle.kd_state.specs.declared.setting.Setting.TheVariants.{Seat, SeatReflector, RingTo, Turn, PinTo}
use Rattle.kd_state.specs.{declared.machine.parts.Parts.TheVariants.Rotor, declared.machine.parts.Parts.Parts}
use Rattle.kd_state.specs.{declared.sheet_day.rotor_entry.SheetWheel.SheetWheel, Machine.{machine_ring, machine_letter}}
use Rattle.kd_state.specs.ByModel.{by_model}
use Rattle.kd_state.specs.{SameParts.{same_wheel, same_reflector}, SheetDay.Day, Costs.exactly_one}
use Rattle.kd_state.specs.declared.setting.Setting.{Setting}
use Rattle.kd_tables.specs.{declared.wheel.Wheel.Wheel, Rings.ring_of, Tables.box_of}
use Rattle.std.specs.Prelude.{ℕ, nat_eq, Bool, false, not, List, [], ◌∷◌, ◌++◌, ◌+◌, flat_map, find, zip, Option}
use Rattle.std.specs.Prelude.{if◌then◌else◌}
use Rattle.std.specs.Option.{option_map_or}

-- the list with only the setting `x`. If `already` is true (the machine is as `x` would set it), the list is empty.
abbrev pub setting_unless : Bool → Setting → List Setting
setting_unless already x = if already then [] else x ∷ []

-- the settings for the items of a list, item after item. The function `lines` gives the settings for one item and its
-- number. The first item has the number `number`.
abbrev pub lines_from : {Z : Type 0} → (ℕ → Z → List Setting) → ℕ → List Z → List Setting
lines_from lines number [] = []
lines_from lines number (z ∷ zs) = lines number z ++ lines_from lines (number + 1) zs

-- the setting SEAT, if a slot doesn't hold the day's wheel
abbrev pub slot_seat_line : ℕ → Option Wheel × SheetWheel → List Setting
slot_seat_line slot z = setting_unless (option_map_or (same_wheel z.1.wheel) z.0 false) (Seat slot z.1.wheel)

-- the setting RING, if `wheel` is one of the day's wheels and its ring isn't at the day's letter
abbrev pub wheel_ring_line : Parts → List SheetWheel → Wheel → List Setting
wheel_ring_line machine wheels wheel = option_map_or
    (λ w. setting_unless (option_map_or (nat_eq w.ring) (machine_ring machine w.wheel) false) (RingTo w.wheel w.ring))
    (find (λ w. same_wheel wheel w.wheel) wheels) []

-- the setting TURN, if a wheel of the day isn't turned to the day's letter
abbrev pub slot_turn_line : Parts → ℕ → SheetWheel → List Setting
slot_turn_line machine slot w =
    setting_unless (option_map_or (nat_eq w.letter) (machine_letter machine w.wheel) false) (Turn slot w.letter)

-- the setting PIN, if a pin isn't as the day says
abbrev pub pin_line : ℕ → ℕ × (Bool × Bool) → List Setting
pin_line wheel z = setting_unless (not (exactly_one z.1.0 z.1.1)) (PinTo wheel z.0 z.1.1)

-- for each pin of a wheel: the setting PIN, if the pin isn't as the day says
abbrev pub wheel_pin_lines : ℕ → List Bool × List Bool → List Setting
wheel_pin_lines wheel z = flat_map (pin_line wheel) (zip (ring_of wheel) (zip z.0 z.1))

-- the setting TURN, if a pin wheel shows another letter than the day's
abbrev pub pin_wheel_turn_line : ℕ → ℕ × ℕ → List Setting
pin_wheel_turn_line wheel z = setting_unless (nat_eq z.0 z.1) (Turn wheel z.1)

-- a setting for each slot, reflector, ring, letter or pin that isn't as the day says. The order is fixed; rings are in
-- the order of the wheels: I to VIII, Beta, Gamma.
abbrev pub loose_lines : Parts → Day → List Setting
loose_lines = by_model []
    (λ machine day. lines_from slot_seat_line 1 (zip machine.slots day.wheels)
    ++ setting_unless (same_reflector machine.reflector day.reflector) (SeatReflector day.reflector)
    ++ flat_map (wheel_ring_line (Rotor machine) day.wheels) (box_of machine.model)
    ++ lines_from (slot_turn_line (Rotor machine)) 1 day.wheels)
    (λ machine day. lines_from wheel_pin_lines 1 (zip (pins_of machine.pins) (pins_of day.pins))
    ++ lines_from pin_wheel_turn_line 1 (zip machine.letters day.window))

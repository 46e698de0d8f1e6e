-- When a machine allows a setting, and which item of the machine the setting changes.
-- Source: this desk's own rules; `outcome` in Setting.antt has the same rules as steps, with the reasons for refusals.
-- Code: `carry` changes the machine in place.
use Rattle.std.specs.Prelude.{◌≡◌, ◌≢◌, ◌↔◌, ℕ, ◌+◌, IsTrue, Bool, List, length, map, Contains}
use Rattle.std.specs.Prelude.{Option, Some}
use Rattle.kd_tables.specs.Tables.{wheels_for, box_of, reflectors_of}
use Rattle.kd_tables.specs.declared.wheel.Wheel.{Wheel}
use Rattle.kd_tables.specs.declared.place.Place.{Place}
use Rattle.kd_tables.specs.{Rings.{ring_of, place_on}, Places.IsBefore}
use Rattle.kd_pins.specs.PinWheels.{pins_of}
use Rattle.kd_state.specs.declared.machine.parts.Parts.{Parts}
use Rattle.kd_state.specs.declared.machine.parts.Parts.TheVariants.{Rotor, Pin}
use Rattle.kd_state.specs.declared.setting.Setting.{Setting}
use Rattle.kd_state.specs.declared.setting.Setting.TheVariants.{Pull, Put, Seat, SeatReflector, RingTo, Turn, PinTo}
use Rattle.kd_state.specs.declared.setting.Setting.TheVariants.{LugTo}
use Rattle.kd_state.specs.{SameParts.{place_in_box, numbered_item}, Pins.{pin_set, wheel_pins}}
use Rattle.kd_state.specs.Machine.{IsMachine, cable_letters, letters_in_cables}
use Rattle.kd_state.specs.Setting.{Carries, has_loose_end, with_lug, cable_without, cable_with, seat_without}

-- The list `after` is the list `before`, except that item `number` is now `value`. Items are counted from 1.
pub record IsItemChanged {X : Type 0} (before : List X) (number : ℕ) (value : X) (after : List X) : Type 0 where
  pub size : length after ≡ length before
  pub item : numbered_item after number ≡ Some value
  pub others : (other : ℕ) → other ≢ number → numbered_item after other ≡ numbered_item before other

-- The machine has no reason to refuse the setting, and becomes `after`. The setting sets one item, such as a cable or
-- a ring. Nothing else changes, not even the rings and letters of wheels in the box. But `Seat` also empties the
-- wheel's old slot.
abbrev pub MakesOneChange : Parts → Setting → Parts → Type 0
MakesOneChange (Rotor m) (Pull cable letter) after =
    (held : Option ℕ × Option ℕ) × (numbered_item m.cables cable ≡ Some held) × Contains (cable_letters held) letter
    × (cables : List (Option ℕ × Option ℕ)) × IsItemChanged m.cables cable (cable_without letter held) cables
    × (Rotor (record m { cables = cables }) ≡ after)
MakesOneChange (Rotor m) (Put cable letter) after =
    (held : Option ℕ × Option ℕ) × (numbered_item m.cables cable ≡ Some held) × IsTrue (has_loose_end held)
    × (¬ (Contains (letters_in_cables m.cables) letter))
    × (cables : List (Option ℕ × Option ℕ)) × IsItemChanged m.cables cable (cable_with letter held) cables
    × (Rotor (record m { cables = cables }) ≡ after)
MakesOneChange (Rotor m) (Seat slot wheel) after = Contains (wheels_for m.model slot) wheel
    × (slots : List (Option Wheel)) × IsItemChanged (map (seat_without wheel) m.slots) slot (Some wheel) slots
    × (Rotor (record m { slots = slots }) ≡ after)
MakesOneChange (Rotor m) (SeatReflector reflector) after = Contains (reflectors_of m.model) reflector
    × (Rotor (record m { reflector = reflector }) ≡ after)
MakesOneChange (Rotor m) (RingTo wheel letter) after = Contains (box_of m.model) wheel
    × (rings : List ℕ) × IsItemChanged m.rings (place_in_box m.model wheel + 1) letter rings
    × (Rotor (record m { rings = rings }) ≡ after)
MakesOneChange (Rotor m) (Turn slot letter) after =
    (wheel : Wheel) × (numbered_item m.slots slot ≡ Some (Some wheel))
    × (letters : List ℕ) × IsItemChanged m.letters (place_in_box m.model wheel + 1) letter letters
    × (Rotor (record m { letters = letters }) ≡ after)
MakesOneChange (Pin m) (Turn wheel letter) after =
    (shown : ℕ) × (numbered_item m.letters wheel ≡ Some shown) × Contains (ring_of wheel) letter
    × (letters : List ℕ) × IsItemChanged m.letters wheel letter letters
    × (Pin (record m { letters = letters }) ≡ after)
MakesOneChange (Pin m) (PinTo wheel letter effective) after =
    (place : ℕ) × (place_on (ring_of wheel) letter ≡ Some place)
    × (of_wheel : List Bool) × IsItemChanged (wheel_pins m.pins wheel) (place + 1) effective of_wheel
    × (lists : List (List Bool)) × IsItemChanged (pins_of m.pins) wheel of_wheel lists
    × (Pin (record m { pins = pin_set lists }) ≡ after)
MakesOneChange (Pin m) (LugTo bar lug place) after =
    (held : Place × Place) × (numbered_item m.bars bar ≡ Some held)
    × IsBefore (with_lug lug place held).0 (with_lug lug place held).1
    × (bars : List (Place × Place)) × IsItemChanged m.bars bar (with_lug lug place held) bars
    × (Pin (record m { bars = bars }) ≡ after)
MakesOneChange _ _ after = ⊥

-- A machine carries a setting out exactly if it allows the setting. Then the machine changes as `MakesOneChange` says.
abbrev pub SettingsChangeOneThing : Type 0
SettingsChangeOneThing =
    (machine after : Parts) (setting : Setting) → IsMachine machine
    → Carries machine setting after ↔ MakesOneChange machine setting after

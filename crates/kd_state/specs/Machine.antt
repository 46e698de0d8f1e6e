-- The parts of a machine (cables, slots, letters and pins), and when they are legal.
-- Test: tests/cases/desk-lists.toml
use Rattle.std.specs.Prelude.{◌≡◌, ℕ, ◌+◌, ◌<◌, nat_eq, nat_le, Bool, List, ◌++◌, length, map, All, Contains, slice_get}
use Rattle.std.specs.Prelude.{Option, Some, None, if◌then◌else◌}
use Rattle.std.specs.List.{flat_map, IsDistinct}
use Rattle.std.specs.Option.{option_or, option_to_list}
use Rattle.kd_tables.specs.declared.model.Model.{Model}
use Rattle.kd_tables.specs.declared.model.Model.TheVariants.{M209}
use Rattle.kd_tables.specs.declared.wheel.Wheel.{Wheel}
use Rattle.kd_tables.specs.Tables.{box_of, slots_of, reflectors_of, wheels_for}
use Rattle.kd_tables.specs.Rings.{ring_of}
use Rattle.kd_tables.specs.Places.{IsBefore}
use Rattle.kd_pins.specs.declared.pin_set.PinSet.{PinSet}
use Rattle.kd_tables.specs.declared.reflector.Reflector.{Reflector}
use Rattle.kd_tables.specs.declared.place.Place.{Place}
use Rattle.kd_state.specs.Pins.{wheel_pins, pin_at}
use Rattle.kd_state.specs.declared.machine.rotor_parts.RotorParts.{RotorParts}
use Rattle.kd_state.specs.declared.machine.pin_parts.PinParts.{PinParts}
use Rattle.kd_state.specs.declared.machine.parts.Parts.{Parts}
use Rattle.kd_state.specs.declared.machine.parts.Parts.TheVariants.{Rotor, Pin}
use Rattle.kd_state.specs.SameParts.{place_in_box, numbered_item}

-- the letters at a cable's two ends
abbrev pub cable_letters : Option ℕ × Option ℕ → List ℕ
cable_letters cable = option_to_list cable.0 ++ option_to_list cable.1

-- the letters of all cables, in the order of the cables
abbrev pub letters_in_cables : List (Option ℕ × Option ℕ) → List ℕ
letters_in_cables cables = flat_map cable_letters cables

-- The slot at `place` (0 is the left slot) holds the wheel.
abbrev pub IsSeatedAt : List (Option Wheel) → ℕ → Wheel → Type 0
IsSeatedAt slots place wheel = slice_get slots place ≡ Some (Some wheel)

-- `slots` has one item for each slot of the model. Each wheel is allowed in its slot, and no wheel is in two slots.
pub record AreLegalSeats (model : Model) (slots : List (Option Wheel)) : Type 0 where
  pub count : length slots ≡ slots_of model
  pub allowed : (place : ℕ) (w : Wheel) → IsSeatedAt slots place w → Contains (wheels_for model (place + 1)) w
  pub apart : (p q : ℕ) (wheel : Wheel) → IsSeatedAt slots p wheel → IsSeatedAt slots q wheel → p ≡ q

-- There are `number` letters, all below 26.
pub record AreLetters (number : ℕ) (letters : List ℕ) : Type 0 where
  pub count : length letters ≡ number
  pub within : All (λ letter. letter < 26) letters

-- There are 13 cables. All letters in the cables are below 26, and all are different.
pub record AreCables (cables : List (Option ℕ × Option ℕ)) : Type 0 where
  pub count : length cables ≡ 13
  pub within : All (λ letter. letter < 26) (letters_in_cables cables)
  pub apart : IsDistinct nat_eq (letters_in_cables cables)

-- There are six letters, one for each pin wheel, and each letter is on its wheel.
pub record AreOnWheels (letters : List ℕ) : Type 0 where
  pub count : length letters ≡ 6
  pub each : (wheel letter : ℕ) → numbered_item letters wheel ≡ Some letter → Contains (ring_of wheel) letter

-- Each pin wheel has a pin for each of its letters.
abbrev pub HasAllPins : PinSet → Type 0
HasAllPins pins = (wheel : ℕ) → length (wheel_pins pins wheel) ≡ length (ring_of wheel)

-- ---- Which parts make a machine.
-- Source: the published accounts of the models; War Department TM 11-380. Which standings a bar may have is this desk's
-- own rule.
-- Code: `Machine` has these rules as its invariant.

-- The parts make a rotor machine. Each slot is empty, or has a wheel that is allowed in this slot. No wheel is in two
-- slots. The reflector is one of the model's reflectors. Each wheel of the box has a ring and a window letter. No
-- letter is twice in the cables.
pub record AreLegalRotorParts (machine : RotorParts) : Type 0 where
  pub seats : AreLegalSeats machine.model machine.slots
  pub reflector : Contains (reflectors_of machine.model) machine.reflector
  pub rings : AreLetters (length (box_of machine.model)) machine.rings
  pub letters : AreLetters (length (box_of machine.model)) machine.letters
  pub cables : AreCables machine.cables

-- The parts make a Converter. Each pin wheel has a pin for each of its letters, and shows one of its letters. On each
-- of the 27 bars, the left lug is left of the right lug.
pub record AreLegalPinParts (machine : PinParts) : Type 0 where
  pub pins : HasAllPins machine.pins
  pub letters : AreOnWheels machine.letters
  pub bars : length machine.bars ≡ 27
  pub apart : All (λ bar. IsBefore bar.0 bar.1) machine.bars

-- The parts make a rotor machine or a Converter.
abbrev pub IsLegal : Parts → Type 0
IsLegal (Rotor machine) = AreLegalRotorParts machine
IsLegal (Pin machine) = AreLegalPinParts machine

-- a cable with the letters `one` and `other` in alphabetical order; a single letter is at the cable's first end
abbrev pub cable_in_order : Option ℕ → Option ℕ → Option ℕ × Option ℕ
cable_in_order (Some letter) (Some other) =
    if nat_le letter other then (Some letter, Some other) else (Some other, Some letter)
cable_in_order one other = (option_or one other, None)

-- the machine, with each cable's letters put in alphabetical order; it doesn't matter which letter is at which end
abbrev pub with_cables_in_order : Parts → Parts
with_cables_in_order (Rotor machine) =
    Rotor (record machine { cables = map (λ cable. cable_in_order cable.0 cable.1) machine.cables })
with_cables_in_order (Pin machine) = Pin machine

-- The parts are legal, and the letters of each cable are in alphabetical order.
pub record IsMachine (machine : Parts) : Type 0 where
  pub legal : IsLegal machine
  pub cables : with_cables_in_order machine ≡ machine

-- ---- What the getters of a machine show; `None` for a thing that the machine lacks.
-- Test: kd_trials/src/state.rt

-- the machine's model
abbrev pub model_of : Parts → Model
model_of (Rotor machine) = machine.model
model_of (Pin machine) = M209

-- the ring of a wheel; the wheel may be in a slot or in the box. `None` if the model lacks the wheel.
abbrev pub ring_at : RotorParts → Wheel → Option ℕ
ring_at machine wheel = slice_get machine.rings (place_in_box machine.model wheel)

-- the window letter of a wheel; the wheel may be in a slot or in the box. `None` if the model lacks the wheel.
abbrev pub letter_at : RotorParts → Wheel → Option ℕ
letter_at machine wheel = slice_get machine.letters (place_in_box machine.model wheel)

-- the content of the slot: `Some None` if the slot is empty, `None` if the machine lacks the slot
abbrev pub machine_slot : Parts → ℕ → Option (Option Wheel)
machine_slot (Rotor machine) slot = numbered_item machine.slots slot
machine_slot (Pin machine) slot = None

-- the reflector, if the machine has one
abbrev pub machine_reflector : Parts → Option Reflector
machine_reflector (Rotor machine) = Some machine.reflector
machine_reflector (Pin machine) = None

-- the ring of a wheel, if the machine has this wheel
abbrev pub machine_ring : Parts → Wheel → Option ℕ
machine_ring (Rotor machine) wheel = ring_at machine wheel
machine_ring (Pin machine) wheel = None

-- the window letter of a wheel, if the machine has this wheel
abbrev pub machine_letter : Parts → Wheel → Option ℕ
machine_letter (Rotor machine) wheel = letter_at machine wheel
machine_letter (Pin machine) wheel = None

-- the letters in the cable, if the machine has the cable
abbrev pub machine_cable : Parts → ℕ → Option (Option ℕ × Option ℕ)
machine_cable (Rotor machine) cable = numbered_item machine.cables cable
machine_cable (Pin machine) cable = None

-- whether the pin at a letter of a pin wheel is effective; `None` if the machine lacks this pin
abbrev pub machine_pin : Parts → ℕ → ℕ → Option Bool
machine_pin (Rotor machine) wheel letter = None
machine_pin (Pin machine) wheel letter = pin_at machine.pins wheel letter

-- the letter that a pin wheel shows, if the machine has this wheel
abbrev pub machine_pin_letter : Parts → ℕ → Option ℕ
machine_pin_letter (Rotor machine) wheel = None
machine_pin_letter (Pin machine) wheel = numbered_item machine.letters wheel

-- the places of a bar's two lugs, if the machine has this bar
abbrev pub machine_standing : Parts → ℕ → Option (Place × Place)
machine_standing (Rotor machine) bar = None
machine_standing (Pin machine) bar = numbered_item machine.bars bar

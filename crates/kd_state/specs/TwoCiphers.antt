-- The cipher of a machine, and the cipher of a day.
-- Test: tests/refusals
use Rattle.std.specs.Prelude.{◌≢◌, ℕ, List, length, map, All, IsSome}
use Rattle.std.specs.List.{filter_map}
use Rattle.std.specs.Option.{option_zip}
use Rattle.kd_tables.specs.declared.place.Place.{Place}
use Rattle.kd_tables.specs.declared.wheel.Wheel.{Wheel}
use Rattle.kd_tables.specs.Permutation.{exchange}
use Rattle.kd_tables.specs.Places.{place_number}
use Rattle.kd_pins.specs.PinWheels.{pins_of}
use Rattle.kd_enigma.specs.Cipher.{RotorKey, enigma_cipher}
use Rattle.kd_drum.specs.Converter.{PinKey, converter_cipher}
use Rattle.kd_state.specs.declared.machine.rotor_parts.RotorParts.{RotorParts}
use Rattle.kd_state.specs.declared.machine.parts.Parts.{Parts}
use Rattle.kd_state.specs.declared.machine.parts.Parts.TheVariants.{Rotor, Pin}
use Rattle.kd_state.specs.Machine.{cable_letters, ring_at, letter_at}
use Rattle.kd_state.specs.SeatedWheels.{key_of_wheels}
use Rattle.kd_state.specs.SheetDay.{PinDay, Day, Rotor, Pin}

-- ---- When a machine is ready, and which wheels and letters it has.

-- The machine is ready to encipher: no slot is empty, and no cable has exactly one letter. A Converter is always ready.
abbrev pub IsReady : Parts → Type 0
IsReady (Rotor machine) =
    All (λ seated. IsSome seated) machine.slots × All (λ cable. length (cable_letters cable) ≢ 1) machine.cables
IsReady (Pin machine) = Unit {0}

-- the wheels in the slots, from the left
abbrev pub seated_wheels : RotorParts → List Wheel
seated_wheels machine = filter_map (λ seated. seated) machine.slots

-- the letters that a machine shows: in the windows of its slots, from the left, or on its pin wheels
abbrev pub window_of : Parts → List ℕ
window_of (Rotor machine) = filter_map (letter_at machine) (seated_wheels machine)
window_of (Pin machine) = machine.letters

-- ---- Two ciphers: a machine's, by its slots, cables and lugs; and a day's, by its wheels, pairs and rows.
-- Source: the published accounts of the current's path; War Department TM 11-380.
-- Code: a Converter's engine is made from the bars' readings, not from their lugs.

-- the key to which a rotor machine is set; cables with fewer than two letters are ignored
abbrev pub key_of_rotor_parts : RotorParts → RotorKey
key_of_rotor_parts machine = record {
  wheels = seated_wheels machine;
  rings = filter_map (ring_at machine) (seated_wheels machine);
  window = filter_map (letter_at machine) (seated_wheels machine);
  reflector = machine.reflector;
  plugs = exchange (filter_map (λ cable. option_zip cable.0 cable.1) machine.cables);
}

-- the key that a Converter's day asks for, with the day's letters on the pin wheels
abbrev pub key_of_pin_day : PinDay → PinKey
key_of_pin_day day = record { pins = pins_of day.pins; letters = day.window; bars = day.rows }

-- the ciphertext that a ready machine makes of a text. A rotor machine enciphers by its key, and a Converter by its
-- pins, letters and lugs.
abbrev pub physical_cipher : Parts → List ℕ → List ℕ
physical_cipher (Rotor machine) text = enigma_cipher (key_of_rotor_parts machine) text
physical_cipher (Pin machine) text =
    let bars = map (λ (bar : Place × Place). (place_number bar.0, place_number bar.1)) machine.bars in
    converter_cipher (record { pins = pins_of machine.pins; letters = machine.letters; bars = bars }) text

-- the ciphertext of a text, enciphered with the key that the day asks for
abbrev pub sheet_cipher : Day → List ℕ → List ℕ
sheet_cipher (Rotor day) text = enigma_cipher (key_of_wheels day.wheels day.reflector (exchange day.pairs)) text
sheet_cipher (Pin day) text = converter_cipher (key_of_pin_day day) text

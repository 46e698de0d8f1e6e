-- The text of a machine file, line by line.
-- Test: tests/cases/desk-files.toml
use Rattle.std.specs.Prelude.{codes, ℕ, ◌+◌, Bool, List, [], ◌∷◌, ◌++◌, map, zip, Option, if◌then◌else◌}
use Rattle.std.specs.List.{concat, flat_map, join_by}
use Rattle.std.specs.Option.{option_map_or}
use Rattle.kd_tables.specs.Places.{digit_text, standing_text}
use Rattle.kd_tables.specs.Rings.{ring_of}
use Rattle.kd_tables.specs.Tables.{model_text, reflector_text, wheel_text}
use Rattle.kd_tables.specs.declared.model.Model.{Model}
use Rattle.kd_tables.specs.declared.model.Model.TheVariants.{EnigmaI, M3, M4, M209}
use Rattle.kd_tables.specs.declared.wheel.Wheel.{Wheel}
use Rattle.kd_tables.specs.Text.{letters_text}
use Rattle.kd_pins.specs.declared.pin_set.PinSet.{PinSet}
use Rattle.kd_state.specs.Machine.{cable_letters}
use Rattle.kd_state.specs.declared.machine.rotor_parts.RotorParts.{RotorParts}
use Rattle.kd_state.specs.declared.machine.pin_parts.PinParts.{PinParts}
use Rattle.kd_state.specs.declared.machine.parts.Parts.{Parts}
use Rattle.kd_state.specs.declared.machine.parts.Parts.TheVariants.{Rotor, Pin}
use Rattle.kd_sheet.specs.Key.{key_name}
use Rattle.kd_sheet.specs.declared.key.Key.{Key}
use Rattle.kd_sheet.specs.declared.key.Key.TheVariants as keys

-- `text` in double quotes
abbrev pub quoted_text : List ℕ → List ℕ
quoted_text text = codes "\"" ++ text ++ codes "\""

-- an array: `texts` in double quotes, with a comma and a space between them, all in brackets
abbrev pub array_text : List (List ℕ) → List ℕ
array_text texts = codes "[" ++ join_by quoted_text (codes ", ") texts ++ codes "]"

-- a line of a file: the name of `key`, an equals sign between spaces, and `value`
abbrev pub key_line : Key → List ℕ → List ℕ
key_line key value = key_name key ++ codes " = " ++ value ++ codes "\n"

-- the version in which a machine file of `model` is written: the lowest version that has this model
abbrev pub file_version : Model → ℕ
file_version EnigmaI = 1
file_version M3 = 1
file_version M4 = 2
file_version M209 = 1

-- the name of the wheel in a slot, or the empty text if the slot is empty
abbrev pub slot_text : Option Wheel → List ℕ
slot_text slot = option_map_or wheel_text slot []

-- the letters in a cable, as a text of at most two letters
abbrev pub cable_text : Option ℕ × Option ℕ → List ℕ
cable_text cable = letters_text (cable_letters cable)

-- the pin's letter as a text if the pin is effective, otherwise the empty text
abbrev pub effective_pin_text : ℕ → Bool → List ℕ
effective_pin_text letter effective = if effective then (letter + 65) ∷ [] else []

-- the letters of a wheel's effective pins, in the order of the wheel's letters `ring`
abbrev pub pins_text : List ℕ → List Bool → List ℕ
pins_text ring pins = flat_map (λ (pin : ℕ × Bool). effective_pin_text pin.0 pin.1) (zip ring pins)

-- for each of the six wheels, a text: the letters of the wheel's effective pins
abbrev pub pin_texts : PinSet → List (List ℕ)
pin_texts pins =
    pins_text (ring_of 1) pins.w1 ∷ pins_text (ring_of 2) pins.w2 ∷ pins_text (ring_of 3) pins.w3
    ∷ pins_text (ring_of 4) pins.w4 ∷ pins_text (ring_of 5) pins.w5 ∷ pins_text (ring_of 6) pins.w6 ∷ []

-- the first two lines of a machine file: the version and the model
abbrev pub head_file_lines : Model → List (List ℕ)
head_file_lines model =
    key_line keys.Version (digit_text (file_version model)) ∷ key_line keys.Model (quoted_text (model_text model)) ∷ []

-- the lines of a rotor machine's file after the first two
abbrev pub rotor_file_lines : RotorParts → List (List ℕ)
rotor_file_lines m =
    key_line keys.Reflector (quoted_text (reflector_text m.reflector))
    ∷ key_line keys.Slots (array_text (map slot_text m.slots))
    ∷ key_line keys.Rings (quoted_text (letters_text m.rings))
    ∷ key_line keys.Letters (quoted_text (letters_text m.letters))
    ∷ key_line keys.Cables (array_text (map cable_text m.cables))
    ∷ []

-- the lines of a Converter's file after the first two
abbrev pub converter_file_lines : PinParts → List (List ℕ)
converter_file_lines m =
    key_line keys.Letters (quoted_text (letters_text m.letters))
    ∷ key_line keys.Pins (array_text (pin_texts m.pins))
    ∷ key_line keys.Bars (array_text (map standing_text m.bars))
    ∷ []

-- the text of a machine's file
unfoldable pub machine_text : Parts → List ℕ
machine_text (Rotor m) = concat (head_file_lines m.model ++ rotor_file_lines m)
machine_text (Pin m) = concat (head_file_lines M209 ++ converter_file_lines m)

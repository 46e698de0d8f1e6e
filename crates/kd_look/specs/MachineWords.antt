-- A machine in words: one line for each thing that a person compares with the real machine.
-- Test: tests/cases/curator-look.toml
use Rattle.std.specs.Prelude.{codes, ℕ, ◌+◌, ◌++◌, false, List, [], ◌∷◌, Option, Some, None, decimal, if◌then◌else◌}
use Rattle.std.specs.List.{flat_map, range_with_len}
use Rattle.std.specs.Option.{option_map_or}
use Rattle.kd_tables.specs.Places.{standing_text}
use Rattle.kd_tables.specs.Tables.{model_text, reflector_text, wheel_text}
use Rattle.kd_tables.specs.Text.{letters_text}
use Rattle.kd_tables.specs.declared.wheel.Wheel.{Wheel}
use Rattle.kd_state.specs.Machine.{model_of, machine_slot, machine_reflector, machine_ring, machine_letter}
use Rattle.kd_state.specs.Machine.{machine_cable, machine_pin, machine_pin_letter, machine_standing}
use Rattle.kd_state.specs.declared.machine.parts.Parts.{Parts}
use Rattle.kd_language.specs.Language.{text_in}
use Rattle.kd_language.specs.declared.language.Language.{Language}
use Rattle.kd_look.specs.Values.{two_digits}
use Rattle.kd_look.specs.declared.machine_words.Thing.{Thing}
use Rattle.kd_look.specs.declared.machine_words.Thing.TheVariants as things
use Rattle.kd_look.specs.declared.texts.TheConstants as texts

-- the start of a line: `name` and `number`, such as `cable 1: `
unfoldable pub label : List ℕ → ℕ → List ℕ
label name number = name ++ codes " " ++ decimal number ++ codes ": "

-- the letter as text; empty if there is no letter
abbrev pub letter_words : Option ℕ → List ℕ
letter_words letter = option_map_or (λ one. letters_text (one ∷ [])) letter []

-- a ring as a letter and as a number; A is 01
unfoldable pub ring_words : Option ℕ → List ℕ
ring_words ring = option_map_or
    (λ one. letters_text (one ∷ []) ++ codes " (" ++ two_digits (one + 1) ++ codes ")") ring []

-- the words for a wheel in a slot: the wheel's name, its ring and its window letter
unfoldable pub wheel_words : Language → Parts → Wheel → List ℕ
wheel_words l machine wheel =
    text_in l texts.WHEEL ++ wheel_text wheel ++ text_in l texts.RING ++ ring_words (machine_ring machine wheel)
    ++ text_in l texts.WINDOW ++ letter_words (machine_letter machine wheel) ++ codes "\n"

-- the line of a slot; empty if the machine has no such slot
unfoldable pub slot_words : Language → Parts → ℕ → List ℕ
slot_words l machine slot = option_map_or (λ held.
    label (text_in l texts.SLOT) slot ++ option_map_or (wheel_words l machine) held (text_in l texts.EMPTY))
    (machine_slot machine slot) []

-- the line of cable `cable`, from the letters at its two ends; empty if neither end has a letter
unfoldable pub cable_line : Language → ℕ → Option ℕ → Option ℕ → List ℕ
cable_line l cable (Some one) (Some other) =
    label (text_in l texts.CABLE) cable ++ letters_text (one ∷ []) ++ letters_text (other ∷ []) ++ codes "\n"
cable_line l cable (Some one) None =
    label (text_in l texts.CABLE) cable ++ letters_text (one ∷ []) ++ text_in l texts.FREE_END
cable_line l cable None (Some other) =
    label (text_in l texts.CABLE) cable ++ letters_text (other ∷ []) ++ text_in l texts.FREE_END
cable_line l cable None None = []

unfoldable pub cable_words : Language → Parts → ℕ → List ℕ
cable_words l machine cable = option_map_or (λ ends. cable_line l cable ends.0 ends.1) (machine_cable machine cable) []

-- If the pin at `letter` is effective, a space and `letter`. Otherwise nothing.
unfoldable pub pin_words : Parts → ℕ → ℕ → List ℕ
pin_words machine wheel letter =
    if option_map_or (λ effective. effective) (machine_pin machine wheel letter) false
    then codes " " ++ letters_text (letter ∷ []) else []

-- the line of a pin wheel: the letter that it shows, and the letters of its effective pins in alphabetical order
unfoldable pub pin_wheel_words : Language → Parts → ℕ → List ℕ
pin_wheel_words l machine wheel = option_map_or (λ shown.
    label (text_in l texts.PIN_WHEEL) wheel ++ text_in l texts.SHOWN ++ letters_text (shown ∷ [])
    ++ text_in l texts.PINS ++ flat_map (pin_words machine wheel) (range_with_len 0 26) ++ codes "\n")
    (machine_pin_letter machine wheel) []

-- the line of a bar: the places of its lugs
unfoldable pub bar_words : Language → Parts → ℕ → List ℕ
bar_words l machine bar = option_map_or (λ standing.
    label (text_in l texts.BAR) bar ++ standing_text standing ++ codes "\n") (machine_standing machine bar) []

-- the line of the slot, cable, pin wheel or bar `number`; empty if the machine doesn't have it
unfoldable pub thing_words : Language → Parts → Thing → ℕ → List ℕ
thing_words l machine things.Slot number = slot_words l machine number
thing_words l machine things.Cable number = cable_words l machine number
thing_words l machine things.PinWheel number = pin_wheel_words l machine number
thing_words l machine things.Bar number = bar_words l machine number

-- the lines of the slots, cables, pin wheels or bars, from number 1 to `count`; `thing` says which of the four
abbrev pub things_words : Language → Parts → Thing → ℕ → List ℕ
things_words l machine thing count = flat_map (thing_words l machine thing) (range_with_len 1 count)

-- the line of the reflector; empty if the machine has no reflector
unfoldable pub reflector_words : Language → Parts → List ℕ
reflector_words l machine = option_map_or
    (λ reflector. text_in l texts.REFLECTOR ++ reflector_text reflector ++ codes "\n") (machine_reflector machine) []

-- the words for a machine: the model, the reflector, and each slot, cable, pin wheel and bar
unfoldable pub machine_words : Language → Parts → List ℕ
machine_words l machine =
    text_in l texts.MODEL ++ model_text (model_of machine) ++ codes "\n" ++ reflector_words l machine
    ++ things_words l machine things.Slot 4 ++ things_words l machine things.Cable 13
    ++ things_words l machine things.PinWheel 6 ++ things_words l machine things.Bar 27

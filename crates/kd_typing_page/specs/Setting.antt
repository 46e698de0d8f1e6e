-- The setting of the machine in words, in language `l`.
use Rattle.std.specs.Prelude.{decimal, ℕ, Bool, true, false, if◌then◌else◌, List, [], ◌∷◌, ◌++◌, flat_map}
use Rattle.std.specs.Prelude.{Option, Some, None}
use Rattle.kd_tables.specs.declared.place.Place.{Place}
use Rattle.kd_tables.specs.Places.{place_text}
use Rattle.kd_tables.specs.Rings.{ring_of}
use Rattle.kd_tables.specs.Text.{letters_text}
use Rattle.kd_pins.specs.PinWheels.{pin_wheels}
use Rattle.kd_state.specs.declared.machine.parts.Parts.{Parts}
use Rattle.kd_state.specs.Machine.{machine_pin, machine_standing, model_of}
use Rattle.kd_state.specs.TwoCiphers.{window_of}
use Rattle.kd_language.specs.declared.language.Language.{Language}
use Rattle.kd_pictures.specs.declared.numbers.TheConstants.{BARS}
use Rattle.kd_pictures.specs.Board.{all_cables}
use Rattle.kd_language.specs.Language.{text_in}
use Rattle.kd_language.specs.Template.{filled}
use Rattle.kd_pictures.specs.Template.{letter_text}
use Rattle.kd_pictures.specs.Wheels.{machine_words}
use Rattle.kd_pictures.specs.Words.{is_converter}
use Rattle.kd_typing_page.specs.declared.texts.TheConstants as texts

-- the setting of a rotor machine: its reflector, its wheels with rings and window letters, and its cables
unfoldable pub rotor_setting : Language → Parts → List ℕ
rotor_setting l m =
    text_in l texts.ROTOR_SETTING ++ machine_words l m ++ text_in l texts.CABLES ++ all_cables l m ++ texts.SETTING_END.now

-- the text of `letter` if its pin is effective; otherwise nothing
abbrev pub pin_letter : ℕ → Option Bool → List ℕ
pin_letter letter (Some true) = letter_text letter
pin_letter letter (Some false) = []
pin_letter letter None = []

-- the letters of a wheel's effective pins
abbrev pub wheel_pins : Language → Parts → ℕ → List ℕ → List ℕ
wheel_pins l m wheel letters =
    filled (text_in l texts.WHEEL_PINS) (decimal wheel ∷ [])
    ++ flat_map (λ letter. pin_letter letter (machine_pin m wheel letter)) letters

unfoldable pub pins_text : Language → Parts → List ℕ
pins_text l m = flat_map (λ wheel. wheel_pins l m wheel (ring_of wheel)) pin_wheels

-- a space, then the places of a bar's two lugs; nothing if there is no bar
abbrev pub bar_text : Option (Place × Place) → List ℕ
bar_text None = []
bar_text (Some standing) = filled texts.BAR.now (place_text standing.0 ∷ place_text standing.1 ∷ [])

-- the setting of a Converter: the letters of its wheels, its effective pins, and its bars
unfoldable pub pin_setting : Language → Parts → List ℕ
pin_setting l m =
    text_in l texts.PIN_SETTING ++ letters_text (window_of m) ++ text_in l texts.PINS ++ pins_text l m
    ++ text_in l texts.BARS ++ flat_map (λ bar. bar_text (machine_standing m bar)) BARS ++ texts.SETTING_END.now

abbrev pub setting_text : Language → Parts → List ℕ
setting_text l m = if is_converter (model_of m) then pin_setting l m else rotor_setting l m

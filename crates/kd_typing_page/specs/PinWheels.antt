-- The pin wheels, the knob and the keys on a Converter's page, in language `l`.
use Rattle.std.specs.Prelude.{decimal, ℕ, List, [], ◌∷◌, ◌++◌, flat_map}
use Rattle.kd_tables.specs.declared.model.Model.{Model}
use Rattle.kd_tables.specs.Rings.{ring_of}
use Rattle.kd_pins.specs.PinWheels.{pin_wheels}
use Rattle.kd_language.specs.declared.language.Language.{Language}
use Rattle.kd_language.specs.Language.{text_in}
use Rattle.kd_language.specs.Template.{filled}
use Rattle.kd_pictures.specs.Template.{letter_text}
use Rattle.kd_pictures.specs.Words.{model_name}
use Rattle.kd_typing_page.specs.declared.texts.TheConstants as texts

abbrev pub letter_option : ℕ → List ℕ
letter_option letter = filled texts.LETTER.now (letter_text letter ∷ [])

-- a wheel, with the letters that it can show, in their order on the wheel
unfoldable pub wheel_text : Language → ℕ → List ℕ → List ℕ
wheel_text l wheel letters =
    filled (text_in l texts.WHEEL) (decimal wheel ∷ decimal wheel ∷ decimal wheel ∷ [])
    ++ flat_map letter_option letters ++ filled (text_in l texts.WHEEL_END) (decimal wheel ∷ [])

-- the six wheels, each with its letters in their order on the wheel
unfoldable pub wheels_text : Language → List ℕ
wheels_text l = flat_map (λ wheel. wheel_text l wheel (ring_of wheel)) pin_wheels

-- the wheels, the knob, the keys and the tape
unfoldable pub pin_desk : Language → Model → List ℕ
pin_desk l model =
    filled (text_in l texts.PIN_HEAD) (model_name model ∷ []) ++ wheels_text l
    ++ text_in l texts.KNOB ++ text_in l texts.KEYS ++ texts.PIN_KEYS.now ++ text_in l texts.PIN_TAPE

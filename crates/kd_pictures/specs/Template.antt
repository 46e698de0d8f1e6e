-- The values that are filled into a template.
use Rattle.std.specs.Prelude.{codes, decimal, ℕ, ◌+◌, ◌==◌, nat_lt, if◌then◌else◌, List, [], ◌∷◌, ◌++◌}
use Rattle.kd_tables.specs.Text.{letters_text}
use Rattle.kd_tables.specs.Tables.{wheel_text, reflector_text}
use Rattle.kd_tables.specs.Places.{place_text}
use Rattle.kd_state.specs.Line.{setting_line}
use Rattle.kd_language.specs.declared.language.Language.{Language}
use Rattle.kd_language.specs.Language.{text_in}
use Rattle.kd_pictures.specs.Words.{class_text, mark_text, model_name, word_text}
use Rattle.kd_pictures.specs.declared.template.Value.{Value}
use Rattle.kd_pictures.specs.declared.template.Value.TheVariants as values
use Rattle.kd_pictures.specs.declared.texts.TheConstants.{NO_SETTINGS, ONE_SETTING, SETTINGS}

abbrev pub letter_text : ℕ → List ℕ
letter_text letter = letters_text (letter ∷ [])

-- the number of a letter, from 01 to 26
abbrev pub ordinal_text : ℕ → List ℕ
ordinal_text letter = (if nat_lt (letter + 1) 10 then codes "0" else []) ++ decimal (letter + 1)

-- the number of settings in words, such as `nothing to change` or `3 settings`
abbrev pub count_text : Language → ℕ → List ℕ
count_text l number =
    if number == 0 then text_in l NO_SETTINGS else if number == 1 then text_in l ONE_SETTING
    else decimal number ++ text_in l SETTINGS

-- the text of a value, with its words in the language `l`
abbrev pub value_text : Language → Value → List ℕ
value_text l (values.Number number) = decimal number
value_text l (values.Letter letter) = letter_text letter
value_text l (values.Ordinal letter) = ordinal_text letter
value_text l (values.Wheel wheel) = wheel_text wheel
value_text l (values.Reflector reflector) = reflector_text reflector
value_text l (values.Place place) = place_text place
value_text l (values.Line setting) = setting_line setting
value_text l (values.Count number) = count_text l number
value_text l (values.Model model) = model_name model
value_text l (values.Word word) = word_text l word
value_text l (values.Class class) = class_text class
value_text l (values.Mark mark) = mark_text mark

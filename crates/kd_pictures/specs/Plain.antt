-- The values that a page takes from files have no markup.
use Rattle.std.specs.Prelude.{ℕ, ◌^◌, ◌<◌, ◌==◌, Bool, not, ◌||◌, IsTrue}
use Rattle.std.specs.List.{list_all}
use Rattle.kd_state.specs.Line.{IsSettingInRange}
use Rattle.kd_language.specs.declared.language.Language.{Language}
use Rattle.kd_pictures.specs.declared.template.Value.{Value}
use Rattle.kd_pictures.specs.declared.template.Value.TheVariants as values
use Rattle.kd_pictures.specs.Template.{value_text}

-- whether the byte is none of `<`, `>` and `&`, which HTML reads as markup
abbrev pub is_plain : ℕ → Bool
is_plain byte = not (byte == 60 || (byte == 62 || byte == 38))

-- A value in its range. A number fits 64 bits, a letter is below 26, and the numbers of a setting are in range.
abbrev pub IsValueInRange : Value → Type 0
IsValueInRange (values.Number number) = number < 2 ^ 64
IsValueInRange (values.Letter letter) = letter < 26
IsValueInRange (values.Ordinal letter) = letter < 26
IsValueInRange (values.Wheel wheel) = Unit {0}
IsValueInRange (values.Reflector reflector) = Unit {0}
IsValueInRange (values.Place place) = Unit {0}
IsValueInRange (values.Line setting) = IsSettingInRange setting
IsValueInRange (values.Count number) = number < 2 ^ 64
IsValueInRange (values.Model model) = Unit {0}
IsValueInRange (values.Word word) = Unit {0}
IsValueInRange (values.Class class) = Unit {0}
IsValueInRange (values.Mark mark) = Unit {0}

-- The values that are filled into templates have no markup.
abbrev pub ValuesArePlain : Type 0
ValuesArePlain =
    (l : Language) (value : Value) → IsValueInRange value → IsTrue (list_all is_plain (value_text l value))

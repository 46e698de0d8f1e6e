-- The picture of the windows, or of a Converter's wheels, that the operator has to set.
use Rattle.std.specs.Prelude.{decimal, ℕ, ◌+◌, ◌-◌, ◌*◌, Bool, if◌then◌else◌, List, [], ◌∷◌, ◌++◌}
use Rattle.kd_language.specs.declared.language.Language.{Language}
use Rattle.kd_language.specs.Language.{text_in}
use Rattle.kd_language.specs.Template.{filled}
use Rattle.kd_pictures.specs.Template.{letter_text, ordinal_text}
use Rattle.kd_part_sheet.specs.declared.markup.TheConstants as markup
use Rattle.kd_part_sheet.specs.declared.texts.TheConstants as texts
use Rattle.kd_part_sheet.specs.Markup.{comma}

-- the words for a window: its number and its letter; on a rotor machine also the letter's number
abbrev pub window_words : Bool → ℕ → ℕ → List ℕ
window_words is_converter number letter =
    if is_converter then filled markup.WHEEL_WORDS.now (decimal number ∷ letter_text letter ∷ [])
    else filled markup.WINDOW_WORDS.now (decimal number ∷ letter_text letter ∷ ordinal_text letter ∷ [])

-- The words for windows, which are numbered from `number` on. `first` stands before the first window, and a comma
-- before each later window.
abbrev pub words_after : Bool → List ℕ → ℕ → List ℕ → List ℕ
words_after is_converter first number [] = []
words_after is_converter first number (letter ∷ letters) =
    first ++ window_words is_converter number letter ++ words_after is_converter comma (number + 1) letters

-- a window in the picture: its number and its letter; on a rotor machine also the letter's number
abbrev pub window_item : Language → Bool → ℕ → ℕ → List ℕ
window_item l is_converter number letter =
    if is_converter then filled markup.WHEEL.now (
    decimal (2 + 60 * (number - 1) + 20) ∷ decimal number ∷ decimal (2 + 60 * (number - 1))
    ∷ decimal (2 + 60 * (number - 1) + 20) ∷ letter_text letter ∷ [])
    else filled (text_in l texts.WINDOW) (
    decimal (2 + 96 * (number - 1)) ∷ decimal number ∷ decimal (2 + 96 * (number - 1))
    ∷ decimal (2 + 96 * (number - 1) + 20) ∷ letter_text letter
    ∷ decimal (2 + 96 * (number - 1) + 62) ∷ ordinal_text letter ∷ [])

-- the windows in the picture, with the numbers from `number` on
abbrev pub window_items : Language → Bool → ℕ → List ℕ → List ℕ
window_items l is_converter number [] = []
window_items l is_converter number (letter ∷ letters) =
    window_item l is_converter number letter ++ window_items l is_converter (number + 1) letters

-- the beginning of the picture, up to the windows in its title
abbrev pub windows_title : Language → Bool → List ℕ
windows_title l is_converter = if is_converter then text_in l texts.WHEELS else text_in l texts.WINDOWS

-- the picture of the windows, or of a Converter's wheels, with the picture's title
unfoldable pub windows_text : Language → Bool → List ℕ → List ℕ
windows_text l is_converter letters =
    windows_title l is_converter ++ words_after is_converter [] 1 letters
    ++ markup.WINDOWS_TITLE_END.now ++ window_items l is_converter 1 letters ++ markup.WINDOWS_END.now

-- Lists of letters, wheels and cables, with separators.
use Rattle.std.specs.Prelude.{ℕ, Bool, if◌then◌else◌, List, [], ◌∷◌, ◌++◌}
use Rattle.kd_tables.specs.Tables.{wheel_text}
use Rattle.kd_tables.specs.Text.{letters_text}
use Rattle.kd_state.specs.declared.sheet_day.rotor_entry.SheetWheel.{SheetWheel}
use Rattle.kd_language.specs.declared.language.Language.{Language}
use Rattle.kd_language.specs.Language.{text_in}
use Rattle.kd_language.specs.Template.{filled}
use Rattle.kd_pictures.specs.Template.{letter_text, ordinal_text}
use Rattle.kd_part_sheet.specs.declared.markup.TheConstants.{RING}
use Rattle.kd_part_sheet.specs.declared.texts.TheConstants.{NO_CABLES}
use Rattle.kd_part_sheet.specs.Markup.{comma, space, wide_space}

-- `letter` or, if `is_number` is true, its number in the alphabet
abbrev pub shown_text : Bool → ℕ → List ℕ
shown_text is_number letter = if is_number then ordinal_text letter else letter_text letter

-- letters or, if `are_numbers` is true, their numbers; `first` stands before them, and `separator` between them
abbrev pub letter_words : Bool → List ℕ → List ℕ → List ℕ → List ℕ
letter_words are_numbers first separator [] = []
letter_words are_numbers first separator (letter ∷ letters) =
    first ++ shown_text are_numbers letter ++ letter_words are_numbers separator separator letters

-- the names of wheels, with `first` before them and spaces between them
abbrev pub wheels_after : List ℕ → List SheetWheel → List ℕ
wheels_after first [] = []
wheels_after first (wheel ∷ wheels) = first ++ wheel_text wheel.wheel ++ wheels_after wide_space wheels

-- the letters and numbers of rings, with `first` before them and commas between them
abbrev pub rings_after : List ℕ → List SheetWheel → List ℕ
rings_after first [] = []
rings_after first (wheel ∷ wheels) =
    first ++ filled RING.now (letter_text wheel.ring ∷ ordinal_text wheel.ring ∷ []) ++ rings_after comma wheels

-- the letters of pairs, with `first` before them and spaces between them
abbrev pub pairs_after : List ℕ → List (ℕ × ℕ) → List ℕ
pairs_after first [] = []
pairs_after first (pair ∷ pairs) =
    first ++ letters_text (pair.0 ∷ pair.1 ∷ []) ++ pairs_after space pairs

-- the day's cables; if there are none, the word that says so
abbrev pub cables_text : Language → List (ℕ × ℕ) → List ℕ
cables_text l [] = text_in l NO_CABLES
cables_text l (pair ∷ pairs) = pairs_after [] (pair ∷ pairs)

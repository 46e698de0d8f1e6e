-- The words in a cell, with spaces between them: letters, cables, groups, wheels and rings.
use Rattle.std.specs.Prelude.{ℕ, Bool, if◌then◌else◌, List, [], ◌∷◌, ◌++◌, flat_map}
use Rattle.kd_tables.specs.Tables.{wheel_text}
use Rattle.kd_tables.specs.Text.{letters_text}
use Rattle.kd_state.specs.declared.sheet_day.rotor_entry.SheetWheel.{SheetWheel}
use Rattle.kd_pictures.specs.Template.{letter_text, ordinal_text}
use Rattle.kd_printed_sheet.specs.declared.texts.TheConstants.{NOTHING, SPACE}

-- a cable, as its two letters
abbrev pub pair_text : ℕ × ℕ → List ℕ
pair_text pair = letters_text (pair.0 ∷ pair.1 ∷ [])

abbrev pub group_text : List ℕ → List ℕ
group_text group = letters_text group

-- the ground setting's letter for a wheel
abbrev pub ground_text : SheetWheel → List ℕ
ground_text wheel = letter_text wheel.letter

abbrev pub name_text : SheetWheel → List ℕ
name_text wheel = wheel_text wheel.wheel

-- the ring of a wheel: a number if `is_number`, otherwise a letter
abbrev pub ring_text : Bool → SheetWheel → List ℕ
ring_text is_number wheel = if is_number then ordinal_text wheel.ring else letter_text wheel.ring

-- ---- Words in a cell.

-- a space, and then the text of `word`
abbrev pub spaced : {X : Type 0} → (X → List ℕ) → X → List ℕ
spaced text word = SPACE.now ++ text word

-- the words with spaces between them; if there are no words, a hyphen
abbrev pub words_text : {X : Type 0} → (X → List ℕ) → List X → List ℕ
words_text text [] = NOTHING.now
words_text text (word ∷ words) = text word ++ flat_map (spaced text) words

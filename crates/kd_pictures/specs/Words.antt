-- Words and marks that are filled into templates, for example the names of models and slots, and the titles of steps.
use Rattle.std.specs.Prelude.{ℕ, Bool, true, false, List, [], ◌∷◌}
use Rattle.kd_tables.specs.Tables.{by_family, family_of}
use Rattle.kd_tables.specs.declared.model.Model.{Model}
use Rattle.kd_tables.specs.declared.model.Model.TheVariants.{EnigmaI, M3, M4, M209}
use Rattle.kd_language.specs.declared.language.Language.{Language}
use Rattle.kd_pictures.specs.declared.words.Class.{Class}
use Rattle.kd_pictures.specs.declared.words.Class.TheVariants as classes
use Rattle.kd_pictures.specs.declared.words.Mark.{Mark}
use Rattle.kd_pictures.specs.declared.words.Mark.TheVariants.{Effective, Ineffective, LugComes, LugLeaves, LugStays}
use Rattle.kd_pictures.specs.declared.words.Word.{Word}
use Rattle.kd_pictures.specs.declared.words.Word.TheVariants as words
use Rattle.kd_pictures.specs.declared.texts.TheConstants as texts
use Rattle.kd_language.specs.Language.{text_in}

-- the full name of the model
abbrev pub model_name : Model → List ℕ
model_name EnigmaI = texts.ENIGMA_I.now
model_name M3 = texts.ENIGMA_M3.now
model_name M4 = texts.ENIGMA_M4.now
model_name M209 = texts.CONVERTER.now

abbrev pub is_converter : Model → Bool
is_converter model = by_family false true (family_of model)

-- the text of a word in the language `l`
abbrev pub word_text : Language → Word → List ℕ
word_text l words.Language = text_in l texts.LANGUAGE
word_text l words.Rings = text_in l texts.RINGS
word_text l words.RingsOut = text_in l texts.RINGS_OUT
word_text l words.Seats = text_in l texts.SEATS
word_text l words.PlugsOut = text_in l texts.OUT_STEP
word_text l words.PlugsIn = text_in l texts.IN_STEP
word_text l words.Windows = text_in l texts.WINDOW_STEP
word_text l words.LampTest = text_in l texts.LAMP_STEP
word_text l words.Pins = text_in l texts.PIN_STEP
word_text l words.Lugs = text_in l texts.LUG_STEP
word_text l words.Letters = text_in l texts.LETTER_STEP
word_text l words.PrintTest = text_in l texts.PRINT_STEP
word_text l words.Greek = text_in l texts.GREEK
word_text l words.Left = text_in l texts.LEFT
word_text l words.Middle = text_in l texts.MIDDLE
word_text l words.Right = text_in l texts.RIGHT
word_text l words.Before = text_in l texts.BEFORE
word_text l words.After = text_in l texts.AFTER
word_text l words.On = text_in l texts.ON
word_text l words.Off = text_in l texts.OFF
word_text l words.LeftLug = text_in l texts.LEFT_LUG
word_text l words.RightLug = text_in l texts.RIGHT_LUG

abbrev pub class_text : Class → List ℕ
class_text classes.Plain = texts.PLAIN.now
class_text classes.Out = texts.OUT_CLASS.now
class_text classes.In = texts.IN_CLASS.now

-- the signs ● ○ for pins, and the signs ▪ × ■ for lugs, in UTF-8
abbrev pub mark_text : Mark → List ℕ
mark_text Effective = 226 ∷ 151 ∷ 143 ∷ []
mark_text Ineffective = 226 ∷ 151 ∷ 139 ∷ []
mark_text LugStays = 226 ∷ 150 ∷ 170 ∷ []
mark_text LugLeaves = 195 ∷ 151 ∷ []
mark_text LugComes = 226 ∷ 150 ∷ 160 ∷ []

-- How a text from a file is shown in a line. The text stands in backticks. If it is long, or has control characters,
-- only its length in bytes is shown. Below are also the words for models, and for the wheels in their boxes.
-- Test: tests/cases/curator-look.toml
use Rattle.std.specs.Prelude.{codes, ℕ, ◌++◌, ◌==◌, ◌&&◌, nat_le, not, Bool, List, [], ◌∷◌, length, decimal, if◌then◌else◌}
use Rattle.std.specs.List.{list_all}
use Rattle.kd_tables.specs.declared.model.Model.{Model}
use Rattle.kd_tables.specs.declared.model.Model.TheVariants.{EnigmaI, M3, M4, M209}
use Rattle.kd_language.specs.declared.language.Language.{Language}
use Rattle.kd_language.specs.Language.{text_in}
use Rattle.kd_language.specs.Template.{filled}
use Rattle.kd_slips.specs.declared.texts.TheConstants.{AN_ENIGMA_I, AN_M3, AN_M4, A_CONVERTER, LONG_TEXT}
use Rattle.kd_slips.specs.declared.texts.TheConstants.{BOX_OF_ENIGMA_I, BOX_OF_M3, BOX_OF_M4, BOX_OF_M209}

-- whether the byte isn't a control character
abbrev pub is_printed : ℕ → Bool
is_printed byte = nat_le 32 byte && not (byte == 127)

-- whether the text has at most 40 bytes, all of which can be printed
unfoldable pub can_be_shown : List ℕ → Bool
can_be_shown text = nat_le (length text) 40 && list_all is_printed text

unfoldable pub shown_text : Language → List ℕ → List ℕ
shown_text l text = if can_be_shown text then codes "`" ++ text ++ codes "`"
    else filled (text_in l LONG_TEXT) (decimal (length text) ∷ [])

-- the model's name, with an article before it
abbrev pub model_with_article : Language → Model → List ℕ
model_with_article l EnigmaI = text_in l AN_ENIGMA_I
model_with_article l M3 = text_in l AN_M3
model_with_article l M4 = text_in l AN_M4
model_with_article l M209 = text_in l A_CONVERTER

-- the wheels in the model's box, in words
abbrev pub box_words : Language → Model → List ℕ
box_words l EnigmaI = text_in l BOX_OF_ENIGMA_I
box_words l M3 = text_in l BOX_OF_M3
box_words l M4 = text_in l BOX_OF_M4
box_words l M209 = text_in l BOX_OF_M209

-- The test of the real machine: the keys to press, the letters that light up or are printed, and the letters to set
-- again.
use Rattle.std.specs.Prelude.{codes, ℕ, Bool, if◌then◌else◌, List, [], ◌∷◌, ◌++◌}
use Rattle.std.specs.Prelude.{length, ◌==◌}
use Rattle.std.specs.Prelude.{false, true, replicate, flat_map, Option, Some, None}
use Rattle.kd_tables.specs.declared.model.Model.{Model}
use Rattle.kd_tables.specs.Permutation.{alphabet}
use Rattle.kd_state.specs.declared.machine.parts.Parts.{Parts}
use Rattle.kd_state.specs.declared.setting.Setting.{Setting}
use Rattle.kd_state.specs.Machine.{model_of}
use Rattle.kd_state.specs.TwoCiphers.{physical_cipher}
use Rattle.kd_pictures.specs.declared.numbers.TheConstants.{LATER_WHEELS}
use Rattle.kd_language.specs.declared.language.Language.{Language}
use Rattle.kd_pictures.specs.declared.words.Word.{Word}
use Rattle.kd_pictures.specs.declared.words.Word.TheVariants as words
use Rattle.kd_pictures.specs.declared.texts.TheConstants as texts
use Rattle.kd_language.specs.Language.{text_in}
use Rattle.kd_page.specs.Page.{Page}
use Rattle.kd_page.specs.Steps.{plain_step_text}
use Rattle.kd_pictures.specs.Fives.{fives_from}
use Rattle.kd_language.specs.Template.{filled}
use Rattle.kd_pictures.specs.Template.{count_text, letter_text, ordinal_text}
use Rattle.kd_page.specs.Windows.{letter_shown}
use Rattle.kd_pictures.specs.Words.{is_converter}

-- the keys to press in the test: the alphabet or, on a Converter, 26 times A
abbrev pub test_keys : Parts → List ℕ
test_keys m = if is_converter (model_of m) then replicate 26 0 else alphabet

-- the words that say what to set again after the test: the windows, or a Converter's letters
abbrev pub test_end : Language → Model → List ℕ
test_end l model = if is_converter model then text_in l texts.TEST_END_PIN else text_in l texts.TEST_END_ROTOR

-- the keys in groups of five, below each key the letter that lights up or is printed, and then the words of `test_end`
unfoldable pub test_text : Language → Parts → List ℕ
test_text l m =
    fives_from 0 (test_keys m) ++ texts.TEST_LAMPS.now ++ fives_from 0 (physical_cipher m (test_keys m))
    ++ test_end l (model_of m)

-- a letter to set again after the test; if `has_number` is true, the letter's number stands beside it
abbrev pub again_text : Bool → ℕ → List ℕ
again_text has_number letter =
    if has_number then filled texts.AGAIN_ROTOR.now (letter_text letter ∷ ordinal_text letter ∷ [])
    else letter_text letter

-- The letter in a window or on a pin wheel, after a separator. Empty if there is no letter.
abbrev pub again_at : List ℕ → Bool → Option ℕ → List ℕ
again_at separator has_number None = []
again_at separator has_number (Some letter) = separator ++ again_text has_number letter

-- the letters that the machine shows, with a separator between them
unfoldable pub again_all : List ℕ → Bool → Parts → List ℕ
again_all separator has_number m =
    again_at [] has_number (letter_shown m 1)
    ++ flat_map (λ number. again_at separator has_number (letter_shown m number)) LATER_WHEELS

abbrev pub letters_again : Parts → List ℕ
letters_again m = if is_converter (model_of m) then again_all (codes " ") false m else again_all (codes ", ") true m

-- The end of the sentence about the letters to set again. Then a field for the letters that the machine shows when it
-- is put away.
abbrev pub again_end : Language → Model → List ℕ
again_end l model = if is_converter model then text_in l texts.AGAIN_END_PIN else text_in l texts.AGAIN_END_ROTOR

-- the note that the page has `count` settings, and that fewer aren't possible; nothing if `count` is 0
abbrev pub fewest_text : Language → ℕ → List ℕ
fewest_text l count = if count == 0 then [] else filled (text_in l texts.FEWEST) (count_text l count ∷ [])

-- the title of the test
abbrev pub test_title : Model → Word
test_title model = if is_converter model then words.PrintTest else words.LampTest

-- the instructions for the test
abbrev pub test_words : Language → Model → List ℕ
test_words l model = if is_converter model then text_in l texts.TEST_PIN else text_in l texts.TEST_ROTOR

-- the step in which the machine is tested
unfoldable pub test_step : Page → List ℕ
test_step page =
    let model = model_of page.after in
    plain_step_text page (test_title model) ++ test_words page.language model ++ test_text page.language page.after
    ++ letters_again page.after ++ again_end page.language model ++ fewest_text page.language (length page.settings)
    ++ texts.STEP_END.now

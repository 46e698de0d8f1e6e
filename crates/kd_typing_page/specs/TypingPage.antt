-- The page for typing on a machine, in language `l`.
use Rattle.std.specs.Prelude.{ℕ, if◌then◌else◌, List, [], ◌∷◌, ◌++◌}
use Rattle.kd_tables.specs.declared.model.Model.{Model}
use Rattle.kd_tables.specs.Text.{letters_text}
use Rattle.kd_state.specs.declared.machine.parts.Parts.{Parts}
use Rattle.kd_state.specs.Machine.{model_of}
use Rattle.kd_state.specs.TwoCiphers.{window_of}
use Rattle.kd_language.specs.declared.language.Language.{Language}
use Rattle.kd_pictures.specs.FileHead.{file_head}
use Rattle.kd_language.specs.Language.{text_in}
use Rattle.kd_language.specs.Template.{filled}
use Rattle.kd_pictures.specs.Words.{is_converter, model_name}
use Rattle.kd_typing.specs.MachineTable.{machine_table_text}
use Rattle.kd_typing_page.specs.declared.script.TheConstants.{SCRIPT}
use Rattle.kd_typing_page.specs.declared.style.TheConstants.{STYLE}
use Rattle.kd_typing_page.specs.declared.texts.TheConstants as texts
use Rattle.kd_typing_page.specs.PinWheels.{pin_desk}
use Rattle.kd_typing_page.specs.Setting.{setting_text}
use Rattle.kd_typing_page.specs.Windows.{rotor_desk}

-- The file up to its body: the title, the content security policy, and the style sheet. The policy names the only
-- script and the only style sheet that the page may use.
unfoldable pub page_head : Language → Model → List ℕ
page_head l model =
    file_head l ++ filled (text_in l texts.TITLE) (model_name model ∷ []) ++ texts.POLICY.now ++ STYLE.now
    ++ texts.BODY.now

-- the parts of the machine that the page shows: its windows or pin wheels, its keys, and its tape
abbrev pub desk_text : Language → Parts → List ℕ
desk_text l m = if is_converter (model_of m) then pin_desk l (model_of m) else rotor_desk l m

-- the words that the script shows
abbrev pub script_words : Language → Model → List ℕ
script_words l model = if is_converter model then text_in l texts.PIN_WORDS else text_in l texts.ROTOR_WORDS

-- the data for the script: the letters that the machine shows, and the script's words. The data stand before the
-- machine's table.
unfoldable pub data_text : Language → Model → List ℕ → List ℕ
data_text l model letters = texts.START.now ++ letters_text letters ++ script_words l model

-- the script and the end of the file; the script is the same on every page
unfoldable pub script_text : List ℕ
script_text = texts.SCRIPT_HEAD.now ++ SCRIPT.now ++ texts.FOOT.now

-- The whole page, with the text of the machine's table in it.
unfoldable pub typing_page : Language → Parts → List ℕ
typing_page l m =
    page_head l (model_of m) ++ desk_text l m ++ setting_text l m ++ data_text l (model_of m) (window_of m)
    ++ machine_table_text m ++ script_text

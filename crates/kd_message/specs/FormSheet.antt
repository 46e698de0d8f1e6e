-- The sheet for the radio, with the form. This sheet has neither the message keys nor the text.
use Rattle.std.specs.Prelude.{decimal, ℕ, List, [], ◌∷◌, ◌++◌, flat_map, map, Option, Some, None}
use Rattle.kd_tables.specs.declared.model.Model.{Model}
use Rattle.kd_tables.specs.Text.{letters_text}
use Rattle.kd_state.specs.SheetDay.{Day, day_model, day_number}
use Rattle.kd_form.specs.declared.heading.Indicator.{Indicator}
use Rattle.kd_form.specs.Part.{Part}
use Rattle.kd_language.specs.declared.language.Language.{Language}
use Rattle.kd_language.specs.Language.{text_in}
use Rattle.kd_language.specs.Template.{filled}
use Rattle.kd_pictures.specs.Words.{model_name}
use Rattle.kd_pictures.specs.declared.results.Results.{Results}
use Rattle.kd_pictures.specs.declared.results.Results.TheVariants.{LeftOpen, Shown}
use Rattle.kd_message.specs.declared.texts.TheConstants as texts
use Rattle.kd_part_sheet.specs.Rows.{pieces}

-- The text after `form` in the HTML id of a form's sheet. `place` is the order's number in a file of several orders; it
-- is `None` in a file of one order.
abbrev pub form_number : Option ℕ → List ℕ
form_number None = []
form_number (Some number) = filled texts.FORM_NUMBER.now (decimal number ∷ [])

abbrev pub form_title : Language → Day → List ℕ
form_title l s = filled (text_in l texts.FORM) (model_name (day_model s) ∷ decimal (day_number s) ∷ [])

-- the head of the sheet with the form: a title that gives the model and the day, and fields to fill in
abbrev pub form_head : Language → Option ℕ → Day → List ℕ
form_head l place s = texts.FORM_ID.now ++ form_number place ++ form_title l s

-- the head of a part: its number, the number of parts, the model, the day, and the number of the part's letters
abbrev pub part_head : Language → Model → ℕ → ℕ → ℕ → ℕ → List ℕ
part_head l model day part parts letters = filled (text_in l texts.FORM_PART) (
    decimal part ∷ decimal parts ∷ model_name model ∷ decimal day ∷ decimal part ∷ decimal parts ∷ decimal letters ∷ [])

-- `letters` or, if the results are left open, an underscore for each letter
abbrev pub letters_with : Results → List ℕ → List ℕ
letters_with Shown letters = letters_text letters
letters_with LeftOpen letters = map (λ letter. 95) letters

-- the ground setting and the enciphered message key
unfoldable pub keys_text : Results → Language → Indicator → List ℕ
keys_text results l indicator =
    text_in l texts.FORM_GROUND ++ letters_text indicator.ground_setting ++ text_in l texts.FORM_KEY
    ++ letters_with results indicator.enciphered_key ++ texts.FORM_KEY_END.now

-- the ground setting and the enciphered message key of a rotor machine's message part; nothing on a Converter
abbrev pub indicator_text : Results → Language → Option Indicator → List ℕ
indicator_text results l (Some indicator) = keys_text results l indicator
indicator_text results l None = []

abbrev pub form_group : Results → List ℕ → List ℕ
form_group results letters = texts.FORM_GROUP.now ++ letters_with results letters ++ texts.FORM_GROUP_END.now

-- the note below a part; it says which groups of the part are fillers or indicators
abbrev pub part_note : Language → Option Indicator → List ℕ
part_note l (Some indicator) = text_in l texts.FORM_ROTOR_NOTE
part_note l None = text_in l texts.FORM_PIN_NOTE

-- a part of the form: its head, the keys in its heading, its letters in groups of five, and a note
unfoldable pub form_part : Results → Language → Model → ℕ → Part → List ℕ
form_part results l model day part =
    part_head l model day part.heading.part part.heading.parts part.heading.letters
    ++ indicator_text results l part.heading.indicator ++ texts.FORM_GROUPS.now
    ++ flat_map (form_group results) (pieces 5 part.body) ++ part_note l part.heading.indicator

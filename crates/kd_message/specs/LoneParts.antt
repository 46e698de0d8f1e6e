-- How the page shows a part without a number. Either the part's heading is damaged, or the part is an order in place of
-- a form. Such a part isn't read.
use Rattle.std.specs.Prelude.{decimal, ℕ, ◌==◌, if◌then◌else◌, List, [], ◌∷◌, ◌++◌}
use Rattle.kd_tables.specs.declared.model.Model.{Model}
use Rattle.kd_tables.specs.declared.model.Model.TheVariants as models
use Rattle.kd_lost.specs.declared.part.DamagedPart.{DamagedPart}
use Rattle.kd_state.specs.SheetDay.{Day, day_model, day_number}
use Rattle.kd_language.specs.declared.language.Language.{Language}
use Rattle.kd_language.specs.Language.{text_in}
use Rattle.kd_language.specs.Template.{filled}
use Rattle.kd_pictures.specs.Words.{model_name}
use Rattle.kd_part_sheet.specs.declared.markup.TheConstants.{SECTION_END}
use Rattle.kd_message.specs.declared.texts.TheConstants as texts
use Rattle.kd_message.specs.TextSheet.{heading_fault}

-- The words that say where a part without a number stands: after the part with the number `after`. If `after` is 0,
-- the part stands before all numbered parts.
abbrev pub lone_words : Language → ℕ → List ℕ
lone_words l after =
    if after == 0 then text_in l texts.LONE_FIRST else filled (text_in l texts.LONE_AFTER) (decimal after ∷ [])

-- the line for a part without a number, in the list of the sheets
unfoldable pub listed_lone : Language → ℕ → List ℕ
listed_lone l after = texts.LISTED_LONE.now ++ lone_words l after ++ text_in l texts.LISTED_LONE_END

-- What to ask for, in words. If no letter of the body came (`came` is 0), it is the whole part. Otherwise, it is the
-- heading.
abbrev pub lone_asked : Language → ℕ → List ℕ
lone_asked l came = if came == 0 then text_in l texts.ALL_OF_IT else text_in l texts.ITS_HEADING

-- the checkbox to ask for the heading, or for the whole part
unfoldable pub lone_box : Language → ℕ → List ℕ
lone_box l came = text_in l texts.LONE_ASK ++ lone_asked l came ++ texts.ASK_END.now

abbrev pub lone_ask : Language → DamagedPart → List ℕ
lone_ask l part = if part.is_order then [] else lone_box l part.came

-- an example of a valid heading, for each model
abbrev pub heading_example : Model → List ℕ
heading_example models.EnigmaI = texts.THREE_LETTER_HEADING.now
heading_example models.M3 = texts.THREE_LETTER_HEADING.now
heading_example models.M4 = texts.FOUR_LETTER_HEADING.now
heading_example models.M209 = texts.HEADING_WITHOUT_KEYS.now

-- the words for a damaged heading: that it is damaged, the received line, and an example of a valid heading
unfoldable pub damaged_heading : Language → Model → DamagedPart → List ℕ
damaged_heading l model part =
    heading_fault l part.line (text_in l texts.HEADING_DAMAGED) ++ text_in l texts.HEADING_CAME ++ part.heading.bytes
    ++ text_in l texts.HEADING_LIKE ++ heading_example model ++ text_in l texts.HEADING_LIKE_END

-- the reason why a part without a number isn't read: the part is an order, or its heading is damaged
abbrev pub lone_reason : Language → Model → DamagedPart → List ℕ
lone_reason l model part =
    if part.is_order then text_in l texts.IS_ORDER else damaged_heading l model part

-- the section on a part without a number, on the sheet with the text
unfoldable pub lone_text : Language → Day → ℕ → DamagedPart → List ℕ
lone_text l s after part =
    texts.LONE_HEAD.now ++ lone_words l after
    ++ filled (text_in l texts.LONE_HEAD_END) (model_name (day_model s) ∷ decimal (day_number s) ∷ [])
    ++ text_in l texts.UNREAD ++ lone_reason l (day_model s) part ++ texts.REASON_END.now ++ lone_ask l part
    ++ SECTION_END.now

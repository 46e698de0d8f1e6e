-- The sheet with which an operator enciphers or deciphers one part of a message.
use Rattle.std.specs.Prelude.{decimal, ℕ, ◌&&◌, Bool, not, if◌then◌else◌, List, [], ◌∷◌, ◌++◌, length, map, take, drop}
use Rattle.kd_tables.specs.declared.model.Model.{Model}
use Rattle.kd_tables.specs.declared.model.Model.TheVariants.{EnigmaI, M3, M4, M209}
use Rattle.kd_tables.specs.Tables.{reflector_text}
use Rattle.kd_state.specs.SheetDay.{Day, Pin, Rotor, RotorDay}
use Rattle.kd_language.specs.declared.language.Language.{Language}
use Rattle.kd_language.specs.Language.{text_in}
use Rattle.kd_pictures.specs.Results.{are_open}
use Rattle.kd_language.specs.Template.{filled}
use Rattle.kd_pictures.specs.Template.{letter_text}
use Rattle.kd_pictures.specs.Words.{is_converter, model_name}
use Rattle.kd_part_sheet.specs.declared.cells.Cell.{Cell}
use Rattle.kd_part_sheet.specs.declared.markup.TheConstants.{KEY_END, SHEET_END}
use Rattle.kd_part_sheet.specs.declared.part_sheet.PartName.{PartName}
use Rattle.kd_part_sheet.specs.declared.part_sheet.Warnings.{Warnings}
use Rattle.kd_pictures.specs.declared.results.Results.{Results}
use Rattle.kd_pictures.specs.declared.results.Results.TheVariants.{LeftOpen, Shown}
use Rattle.kd_part_sheet.specs.declared.rows.Progress.{Progress}
use Rattle.kd_part_sheet.specs.declared.sheet.Sheet.{Sheet}
use Rattle.kd_part_sheet.specs.declared.texts.TheConstants as texts
use Rattle.kd_part_sheet.specs.Cells.{cells_with}
use Rattle.kd_part_sheet.specs.PartWork.{Work}
use Rattle.kd_part_sheet.specs.Rows.{pieces, progress_after, rows_after}
use Rattle.kd_part_sheet.specs.Sheet.{has_given_start, sheet_text}
use Rattle.kd_part_sheet.specs.Windows.{windows_text}
use Rattle.kd_part_sheet.specs.Words.{cables_text, rings_after, wheels_after}

-- `text` if `is_there` is true, otherwise nothing
abbrev pub text_if : Bool → List ℕ → List ℕ
text_if is_there text = if is_there then text else []

-- the values in the head of each step: the model, the day, the part, and the number of parts
abbrev pub name_values : PartName → List (List ℕ)
name_values name = model_name name.model ∷ decimal name.day ∷ decimal name.part ∷ decimal name.parts ∷ []

-- the head of the sheet
abbrev pub head_text : Language → Sheet → PartName → List ℕ
head_text l sheet name = filled (sheet_text l sheet texts.HEAD) (decimal name.sheet ∷ name_values name)

-- the key of a rotor machine's day: reflector, wheels, rings and cables
unfoldable pub rotor_key_text : Language → RotorDay → List ℕ
rotor_key_text l s =
    filled (text_in l texts.REFLECTOR) (reflector_text s.reflector ∷ []) ++ wheels_after [] s.wheels
    ++ text_in l texts.RINGS ++ rings_after [] s.wheels ++ text_in l texts.CABLES ++ cables_text l s.pairs ++ KEY_END.now

-- the paragraph with the key of the day, to which the machine has to be set
abbrev pub day_key_text : Language → Day → List ℕ
day_key_text l (Rotor s) = rotor_key_text l s
day_key_text l (Pin s) = filled (text_in l texts.LIST) (map letter_text s.list)

-- the progress of a step before its first row: no letters, and no key presses
abbrev pub beginning : Progress
beginning = record { letters = 0; presses = 0 }

-- the first step, in which the message key or the internal key is found
unfoldable pub key_step : Language → Sheet → Day → PartName → Work → List ℕ
key_step l sheet s name work =
    filled (sheet_text l sheet texts.KEY_STEP) (name_values name)
    ++ windows_text l (is_converter name.model) work.ground ++ sheet_text l sheet texts.KEY_WORDS
    ++ rows_after name.results s work.ground beginning (pieces 50 (cells_with name.results work.key))
    ++ sheet_text l sheet texts.KEY_STEP_END

-- the head of the second step, with the number of the body's letters
abbrev pub text_head : Language → Sheet → PartName → ℕ → List ℕ
text_head l sheet name letters = filled (sheet_text l sheet texts.TEXT_STEP) (decimal letters ∷ name_values name)

-- how many letters of a body fit on the first sheet of paper
abbrev pub first_sheet : Model → ℕ
first_sheet model = if is_converter model then 200 else 250

-- the rows on a second sheet of paper, for the letters that don't fit on the first; nothing if there are none
abbrev pub next_sheet : Language → Sheet → Day → PartName → List ℕ → Progress → List Cell → List ℕ
next_sheet l sheet s name start progress [] = []
next_sheet l sheet s name start progress (cell ∷ cells) =
    filled (sheet_text l sheet texts.NEXT_STEP) (name_values name)
    ++ rows_after name.results s start progress (pieces 50 (cell ∷ cells))

abbrev pub text_rows : Language → Sheet → Day → PartName → List ℕ → List Cell → List ℕ
text_rows l sheet s name start body =
    let first = take (first_sheet name.model) body in
    rows_after name.results s start beginning (pieces 50 first)
    ++ next_sheet l sheet s name start (progress_after beginning first) (drop (first_sheet name.model) body)

-- the warnings that apply: copies of the indicators have lost letters, the form is of another day, or its day can't be
-- tested
abbrev pub warnings_text : Language → Sheet → Warnings → List ℕ
warnings_text l sheet warnings =
    text_if warnings.copies_lost (text_in l texts.COPIES_LOST)
    ++ text_if warnings.wrong_day (sheet_text l sheet texts.WRONG_DAY)
    ++ text_if warnings.not_tested (sheet_text l sheet texts.NOT_TESTED)

-- the picture of the windows to set before the text; none if, on a worksheet, the first step finds these windows
abbrev pub start_text : Language → Sheet → PartName → List ℕ → List ℕ
start_text l sheet name letters =
    if are_open name.results && not (has_given_start sheet) then [] else windows_text l (is_converter name.model) letters

-- the second step, in which the text is enciphered or deciphered
unfoldable pub text_step : Language → Sheet → Day → PartName → Warnings → Work → List ℕ
text_step l sheet s name warnings work =
    text_head l sheet name (length work.body) ++ start_text l sheet name work.start
    ++ warnings_text l sheet warnings ++ text_rows l sheet s name work.start (cells_with name.results work.body)

-- the note that says which letters stand for spaces and punctuation
abbrev pub note : Language → Sheet → Model → List ℕ
note l sheet EnigmaI = sheet_text l sheet texts.NOTE
note l sheet M3 = sheet_text l sheet texts.NOTE
note l sheet M4 = text_in l texts.NAVAL_NOTE
note l sheet M209 = sheet_text l sheet texts.NOTE

-- the legend, which says what to do with the letters of a row
abbrev pub legend : Language → Sheet → Results → List ℕ
legend l sheet Shown = sheet_text l sheet texts.LEGEND
legend l sheet LeftOpen = sheet_text l sheet texts.OPEN_LEGEND

-- the sheet of a part
unfoldable pub part_sheet : Language → Sheet → Day → PartName → Warnings → Work → List ℕ
part_sheet l sheet s name warnings work =
    head_text l sheet name ++ day_key_text l s ++ legend l sheet name.results
    ++ text_if warnings.letters_lost (sheet_text l sheet texts.LOST_LETTER)
    ++ key_step l sheet s name work ++ text_step l sheet s name warnings work
    ++ note l sheet name.model ++ SHEET_END.now

-- The page for sending an order.
use Rattle.std.specs.Prelude.{◌≡◌, ◌⊎◌, decimal, ℕ, ◌+◌, ◌*◌, ◌==◌, ◌||◌, if◌then◌else◌, List, [], ◌∷◌, ◌++◌, flat_map, length}
use Rattle.std.specs.Prelude.{◌≤◌, All, false, Option, Some, None, Result, Ok, Err, is_err, OnErr}
use Rattle.std.specs.List.{range_with_len}
use Rattle.kd_tables.specs.Ports.{Port}
use Rattle.kd_tables.specs.Writing.{Writes}
use Rattle.kd_state.specs.declared.machine.parts.Parts.{Parts}
use Rattle.kd_state.specs.SheetDay.{Day, day_model, day_number}
use Rattle.kd_form.specs.declared.fault.FormFault.{FormFault}
use Rattle.kd_form.specs.declared.keys.Keys.{Keys}
use Rattle.kd_form.specs.InTurn.{InTurn}
use Rattle.kd_form.specs.Keys.{AreKeys}
use Rattle.kd_form.specs.OnTheKey.{IsFaultOrNoMemory, IsKeyFault, IsReadyOnKey}
use Rattle.kd_form.specs.Part.{Part, part_text}
use Rattle.kd_form.specs.PartMaking.{IsKeysAnswer, IsPartMade, part_size}
use Rattle.kd_form.specs.Sending.{IsFormOf, IsReadAnswer, IsSendFault, OrderParts, text_letters}
use Rattle.kd_form.specs.Streams.{IsUntouched}
use Rattle.kd_pictures.specs.declared.texts.TheConstants as page_texts
use Rattle.kd_language.specs.declared.language.Language.{Language}
use Rattle.kd_pictures.specs.FileHead.{file_head}
use Rattle.kd_language.specs.Language.{text_in}
use Rattle.kd_language.specs.Template.{filled}
use Rattle.kd_pictures.specs.Words.{is_converter, model_name}
use Rattle.kd_tables.specs.declared.model.Model.{Model}
use Rattle.kd_part_sheet.specs.declared.part_sheet.PartName.{PartName}
use Rattle.kd_part_sheet.specs.declared.part_sheet.Warnings.{Warnings}
use Rattle.kd_pictures.specs.declared.results.Results.{Results}
use Rattle.kd_part_sheet.specs.declared.sheet.Sheet.{Sheet}
use Rattle.kd_part_sheet.specs.declared.sheet.Sheet.TheVariants.{PinSend, RotorSend}
use Rattle.kd_message.specs.declared.texts.TheConstants as texts
use Rattle.kd_part_sheet.specs.PartSheet.{part_sheet}
use Rattle.kd_part_sheet.specs.PartWork.{IsWork, Work}
use Rattle.kd_part_sheet.specs.Rows.{pieces}
use Rattle.kd_tables.specs.declared.ports.write_fault.WriteFault.{WriteFault}
use Rattle.kd_tables.specs.declared.ports.write_fault.WriteFault.TheVariants.{Device, Unwritten}
use Rattle.kd_message.specs.FormSheet.{form_head, form_number, form_part}

-- the head of the file; `title` is the template of its title
unfoldable pub title_text : Language → List ℕ → Day → List ℕ
title_text l title s =
    file_head l ++ filled title (model_name (day_model s) ∷ decimal (day_number s) ∷ [])
    ++ page_texts.STYLE.now ++ page_texts.MORE_STYLE.now ++ page_texts.BODY.now

-- a line in the list of the sheets: a part, with a link to its sheet
abbrev pub listed_sheet : Language → ℕ → ℕ → ℕ → List ℕ
listed_sheet l sheet part parts =
    filled (text_in l texts.LISTED_PART) (decimal sheet ∷ decimal part ∷ decimal parts ∷ [])

-- The number by which links find a part's sheet. `place` is the order's number in a file of several
-- orders; it is `None` in a file of one order.
abbrev pub sheet_number : Option ℕ → ℕ → ℕ
sheet_number None part = part
sheet_number (Some number) part = number * 100 + part

-- a line in the list of the sheets: a part to send
abbrev pub listed_text : Language → Option ℕ → ℕ → ℕ → List ℕ
listed_text l place parts part = listed_sheet l (sheet_number place part) part parts

abbrev pub list_head : Language → ℕ → List ℕ
list_head l parts = if parts == 1 then text_in l texts.LIST_OF_ONE else text_in l texts.LIST_OF_SEVERAL

-- the list of the sheets: the parts, and the form
unfoldable pub list_text : Language → Option ℕ → ℕ → List ℕ
list_text l place parts =
    list_head l parts ++ flat_map (listed_text l place parts) (range_with_len 1 parts) ++ texts.LISTED_FORM.now
    ++ form_number place ++ text_in l texts.LIST_END_WITH_FORM

abbrev pub part_name : Results → Day → ℕ → ℕ → PartName
part_name results s part parts = record {
  model = day_model s;
  day = day_number s;
  sheet = part;
  part = part;
  parts = parts;
  results = results;
}

abbrev pub name_in_place : Results → Day → Option ℕ → ℕ → ℕ → PartName
name_in_place results s place part parts = record (part_name results s part parts) { sheet = sheet_number place part }

abbrev pub sheet_to_send : Model → Sheet
sheet_to_send model = if is_converter model then PinSend else RotorSend

-- no warnings: a part to send has none
abbrev pub no_warnings : Warnings
no_warnings = record { letters_lost = false; copies_lost = false; wrong_day = false; not_tested = false }

-- the sheet for a part to send
abbrev pub send_sheet : Language → Day → PartName → Work → List ℕ
send_sheet l s name work = part_sheet l (sheet_to_send (day_model s)) s name no_warnings work

-- the sheets of the parts from number `part` on
abbrev pub part_sheets : Results → Language → Day → Option ℕ → ℕ → ℕ → List Work → List ℕ
part_sheets results l s place part parts [] = []
part_sheets results l s place part parts (work ∷ works) =
    send_sheet l s (name_in_place results s place part parts) work
    ++ part_sheets results l s place (part + 1) parts works

-- all parts of the form, as the sheet with the form shows them
abbrev pub form_parts : Results → Language → Day → List Part → List ℕ
form_parts results l s made = flat_map (form_part results l (day_model s) (day_number s)) made

-- the sheets of an order: the list of the sheets, a sheet for each part, then the form
unfoldable pub sheets_text : Results → Language → Day → Option ℕ → ℕ → List Work → List Part → List ℕ
sheets_text results l s place parts works made =
    list_text l place parts ++ part_sheets results l s place 1 parts works ++ form_head l place s
    ++ form_parts results l s made ++ texts.ARTICLE_END.now

-- the file of one order
unfoldable pub send_text : Language → Day → List ℕ → List ℕ
send_text l s sheets = title_text l (text_in l texts.TITLE_TO_SEND) s ++ sheets ++ page_texts.FOOT.now

-- ---- What the operator works out for an order, and the order's form.

-- `works` has, for each part, the letters to press and the letters that light up. For this, each piece of the text is
-- enciphered with the keys of its part.
abbrev pub AreWorks : Day → List Keys → List (List ℕ) → List Work → Type 0
AreWorks s [] [] works = works ≡ []
AreWorks s (k ∷ keys) (piece ∷ pieces) works =
    (work : Work) × (more : List Work) × IsWork s k piece work × AreWorks s keys pieces more × (works ≡ work ∷ more)
AreWorks s [] (piece ∷ pieces) works = ⊥
AreWorks s (k ∷ keys) [] works = ⊥

-- `made` are the parts of a form from number `part` on. The whole form has `parts` parts. Each part has one piece of
-- the text, enciphered with the part's keys.
abbrev pub AreMade : Day → ℕ → ℕ → List Keys → List (List ℕ) → List Part → Type 0
AreMade s part parts [] [] made = made ≡ []
AreMade s part parts (k ∷ keys) (piece ∷ pieces) made =
    (one : Part) × (more : List Part) × IsPartMade s part parts k piece one × AreMade s (part + 1) parts keys pieces more
    × (made ≡ one ∷ more)
AreMade s part parts [] (piece ∷ pieces) made = ⊥
AreMade s part parts (k ∷ keys) [] made = ⊥

-- the letters of the order's text, cut into one piece for each part
abbrev pub text_pieces : Day → List ℕ → List (List ℕ)
text_pieces s text = pieces (part_size s) (text_letters s text)

-- `sheets` are the sheets of the order, in language `l`: their list, a sheet for each part, then the form. If
-- `results` are left open, the sheets have neither the ciphertext nor the windows after a row. `place` is the order's
-- number in a file of several orders; it is `None` in a file of one order.
pub record AreOrderSheets (results : Results) (l : Language) (s : Day) (place : Option ℕ) (order form sheets : List ℕ)
    : Type 0 where
  pub parts : OrderParts
  pub read : IsReadAnswer s order (Ok parts)
  pub works : List Work
  pub worked : AreWorks s parts.keys (text_pieces s parts.text) works
  pub made : List Part
  pub are_made : AreMade s 1 (length parts.keys) parts.keys (text_pieces s parts.text) made
  pub is_form : form ≡ flat_map part_text made
  pub are_sheets : sheets ≡ sheets_text results l s place (length parts.keys) works made

-- `page` is the page for sending the order, in language `l`. It has the sheets of the order.
pub record IsSendPage (results : Results) (l : Language) (s : Day) (order form page : List ℕ) : Type 0 where
  pub sheets : List ℕ
  pub are_sheets : AreOrderSheets results l s None order form sheets
  pub is_page : page ≡ send_text l s sheets

-- ---- What `write_send_page` answers.

-- `fault` is a fault that `send` can return for `order`.
abbrev pub IsSendRefusal : Parts → Day → List ℕ → FormFault → Type 0
IsSendRefusal m s order fault =
    IsKeyFault m s fault
    ⊎ (IsReadyOnKey m s × IsFaultOrNoMemory (IsSendFault s order) ((form : List ℕ) × IsFormOf s order form) fault)

-- What `write_send_page` answers:
-- - `PageWritten`: the order has a form, and the page was written. Or the sink failed, and only a prefix of the page
--   was written.
-- - `Refused`: nothing was written. The answer is a fault that `send` can return for this order.
pub data IsSendPageAnswer (results : Results) (l : Language) (m : Parts) (s : Day) (order : List ℕ) (sink : Port)
    (answer : Result (Unit {0}) (WriteFault FormFault)) : Type 0 where
  PageWritten : (form page : List ℕ) → IsReadyOnKey m s → IsFormOf s order form → IsSendPage results l s order form page
      → Writes sink.had sink.has page answer → OnErr answer (answer ≡ Err Device)
      → sink.has_failed ≡ (sink.had_failed || is_err answer)
      → IsSendPageAnswer results l m s order sink answer
  Refused : (fault : FormFault) → IsSendRefusal m s order fault → answer ≡ Err (Unwritten fault) → IsUntouched sink
      → IsSendPageAnswer results l m s order sink answer

-- The order has a form, so `send` doesn't refuse it.
abbrev pub HasForm : Day → List ℕ → Type 0
HasForm s order = (form : List ℕ) × IsFormOf s order form

-- ---- What the code holds. No public contract cites these definitions.

-- `keys` are the keys of the parts from number `part` on, one item for each piece of the text. The keys are valid on
-- the day.
pub record AreKeysOfText (s : Day) (part parts : ℕ) (keys : List Keys) (text : List ℕ) : Type 0 where
  pub of_the_day : All (AreKeys s) keys
  pub suited : InTurn (IsKeysAnswer s) part keys (Ok tt)
  pub each : length (text_pieces s text) ≡ length keys
  pub count : part + length keys ≡ parts + 1
  pub few : parts ≤ 99

-- The next of the parts left: its keys `k`, its letters `piece`, and the keys and the text of the parts after it.
pub record IsNextPart (s : Day) (part parts : ℕ) (all : List Keys) (text : List ℕ) (k : Keys) (piece : List ℕ)
    (keys : List Keys) (later : List ℕ) : Type 0 where
  pub split : all ≡ k ∷ keys
  pub cut : text_pieces s text ≡ piece ∷ text_pieces s later
  pub of_the_day : AreKeys s k
  pub suits : IsKeysAnswer s part k (Ok tt)
  pub few : length piece ≤ part_size s
  pub rest : AreKeysOfText s (part + 1) parts keys later

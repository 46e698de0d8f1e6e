-- The page for receiving a form.
use Rattle.std.specs.Prelude.{◌≡◌, decimal, ℕ, ◌+◌, ◌≤◌, ◌==◌, ◌&&◌, ◌||◌, if◌then◌else◌, is_none, List, [], ◌∷◌, ◌++◌, flat_map, length}
use Rattle.std.specs.Prelude.{◌↔◌, All, Bool, true, false, IsTrue, IfOk, IfSome, Option, Some, None, Result, Ok, Err, is_err}
use Rattle.std.specs.Prelude.{MatchResult, max}
use Rattle.std.specs.List.{range_with_len}
use Rattle.kd_tables.specs.declared.model.Model.{Model}
use Rattle.kd_tables.specs.Ports.{Port}
use Rattle.kd_tables.specs.Writing.{Writes}
use Rattle.kd_state.specs.SheetDay.{Day, day_model, day_number}
use Rattle.kd_form.specs.Streams.{IsUntouched}
use Rattle.kd_lost.specs.declared.damage.PartDamage.{PartDamage}
use Rattle.kd_lost.specs.declared.damaged_text.DamagedText.{DamagedText}
use Rattle.kd_lost.specs.declared.form.DamagedFormFault.{DamagedFormFault}
use Rattle.kd_lost.specs.declared.form.DamagedFormFault.TheVariants as form_faults
use Rattle.kd_lost.specs.declared.part.{DamagedPart.{DamagedPart}, PartNumbers.{PartNumbers}}
use Rattle.kd_lost.specs.DamagedForm.{AreFormParts, IsFormFault, damaged_parts_of}
use Rattle.kd_pictures.specs.declared.texts.TheConstants.{FOOT}
use Rattle.kd_language.specs.declared.language.Language.{Language}
use Rattle.kd_language.specs.Language.{text_in}
use Rattle.kd_language.specs.Template.{filled}
use Rattle.kd_pictures.specs.Words.{is_converter}
use Rattle.kd_part_sheet.specs.declared.markup.TheConstants.{SECTION_END}
use Rattle.kd_part_sheet.specs.declared.part_sheet.PartName.{PartName}
use Rattle.kd_pictures.specs.declared.results.Results.{Results}
use Rattle.kd_pictures.specs.declared.results.Results.TheVariants.{Shown}
use Rattle.kd_part_sheet.specs.declared.sheet.Sheet.{Sheet}
use Rattle.kd_part_sheet.specs.declared.sheet.Sheet.TheVariants.{PinReceive, RotorReceive}
use Rattle.kd_message.specs.declared.texts.TheConstants as texts
use Rattle.kd_part_sheet.specs.PartSheet.{note, part_sheet, text_if}
use Rattle.kd_tables.specs.declared.ports.write_fault.WriteFault.{WriteFault}
use Rattle.kd_tables.specs.declared.ports.write_fault.WriteFault.TheVariants.{Device, Unwritten}
use Rattle.kd_message.specs.declared.receiving.Section.{Section}
use Rattle.kd_message.specs.declared.receiving.Section.TheVariants as sections
use Rattle.kd_message.specs.ReceivedWork.{AreShowable, received_work}
use Rattle.kd_message.specs.LoneParts.{listed_lone, lone_text}
use Rattle.kd_message.specs.ClashWords.{several_note}
use Rattle.kd_message.specs.Notes.{lone_note, missing_note, part_note}
use Rattle.kd_message.specs.SendPage.{list_head, listed_sheet, part_name, title_text}
use Rattle.kd_lost.specs.ShownParts.{IsWhole, is_any_read, is_one_message, shown_under, times_of, total_of}
use Rattle.kd_lost.specs.Texts.{shown_text}
use Rattle.kd_message.specs.TextSheet.{came_text, counted_text, damage_text, missing_text, order_text, passed_text, read_text}
use Rattle.kd_message.specs.TextSheet.{text_part_head}
use Rattle.kd_message.specs.TextSheet.{text_sheet_head, warnings_of}

abbrev pub sheet_to_receive : Model → Sheet
sheet_to_receive model = if is_converter model then PinReceive else RotorReceive

-- ---- What a section of the page has for a part: its line in the list of the sheets, its sheet, its text.

-- the line for a part that isn't read, in the list of the sheets
abbrev pub listed_unread : Language → PartName → List ℕ
listed_unread l name = filled (text_in l texts.LISTED_UNREAD) (decimal name.part ∷ decimal name.parts ∷ [])

-- the line for a part in the list of the sheets; `shown` is the part's text, if the part is read
abbrev pub listed_text : Language → PartName → Option DamagedText → List ℕ
listed_text l name (Some shown) = listed_sheet l name.sheet name.part name.parts
listed_text l name None = listed_unread l name

-- the sheet for a part with the text `shown`
abbrev pub sheet_of_text : Language → Day → PartName → DamagedText → List ℕ
sheet_of_text l s name shown =
    part_sheet l (sheet_to_receive (day_model s)) s name (warnings_of shown) (received_work s shown)

-- the sheet for a part with the text `shown`, which may be a text by count; empty if there is no text
abbrev pub worked_text : Language → Day → PartName → Option DamagedText → List ℕ
worked_text l s name (Some shown) = sheet_of_text l s name shown
worked_text l s name None = []

-- a part's text by count; if there is no text by count, the reason why the part isn't read
abbrev pub counted_or_damage : Language → Day → PartName → DamagedPart → PartDamage → Option DamagedText → List ℕ
counted_or_damage l s name part damage (Some shown) =
    counted_text l (sheet_to_receive (day_model s)) s name part damage shown
counted_or_damage l s name part damage None = damage_text l (sheet_to_receive (day_model s)) name part damage

-- a part's text; if it has none, its text by count; if it has neither, the reason why the part isn't read
abbrev pub text_or_damage : Language → Day → PartName → DamagedPart → Result DamagedText PartDamage → List ℕ
text_or_damage l s name part (Ok shown) = read_text l (sheet_to_receive (day_model s)) s name shown
text_or_damage l s name part (Err damage) = counted_or_damage l s name part damage part.by_count

-- Whether the section shows the results or leaves them open. The list of the sheets and the notes have no results:
-- there, the answer is `Shown`.
abbrev pub results_of : Section → Results
results_of sections.Listed = Shown
results_of (sections.Worked results) = results
results_of (sections.Texts results) = results
results_of sections.Noted = Shown

-- the section on the text of a part that came `times` times
abbrev pub part_text : Language → Day → PartName → ℕ → DamagedPart → List ℕ
part_text l s name times part =
    text_part_head l name ++ came_text l times ++ text_or_damage l s name part part.text ++ SECTION_END.now

-- the text of section `section` about a part that came `times` times
abbrev pub part_in : Section → Language → Day → PartName → ℕ → DamagedPart → List ℕ
part_in sections.Listed l s name times part = listed_text l name (shown_text part)
part_in (sections.Worked results) l s name times part = worked_text l s name (shown_text part)
part_in sections.Noted l s name times part = part_note l name part
part_in (sections.Texts results) l s name times part = part_text l s name times part

-- whether one of the parts has no number
abbrev pub has_lone : List DamagedPart → Bool
has_lone [] = false
has_lone (part ∷ parts) = is_none part.numbers || has_lone parts

-- the sentence about a part that didn't come; if some part of the form has no number, this may be the part
abbrev pub missing_reason : Language → List DamagedPart → List ℕ
missing_reason l parts =
    if has_lone parts then text_in l texts.CAME_WITHOUT_NUMBER else text_in l texts.DID_NOT_COME

-- the section on a part that didn't come; `reason` is the sentence that says so
abbrev pub missing_part_text : Language → PartName → List ℕ → List ℕ
missing_part_text l name reason = text_part_head l name ++ missing_text l name reason ++ SECTION_END.now

-- the text of section `section` about a part that didn't come; `reason` is the sentence that says so
abbrev pub missing_in : Section → Language → PartName → List ℕ → List ℕ
missing_in sections.Listed l name reason = listed_unread l name
missing_in (sections.Worked results) l name reason = []
missing_in sections.Noted l name reason = missing_note l name reason
missing_in (sections.Texts results) l name reason = missing_part_text l name reason

-- The text of section `section` about a part without a number. `after` is the number of the last numbered part before
-- this part.
abbrev pub lone_in : Section → Language → Day → ℕ → DamagedPart → List ℕ
lone_in sections.Listed l s after part = listed_lone l after
lone_in (sections.Worked results) l s after part = []
lone_in sections.Noted l s after part = lone_note l (day_model s) after part
lone_in (sections.Texts results) l s after part = lone_text l s after part

-- ---- The parts of one message, by their numbers.

-- the part number that a heading gives; `before` if the heading is damaged
abbrev pub number_or : ℕ → Option PartNumbers → ℕ
number_or before (Some numbers) = numbers.part
number_or before None = before

-- The text of section `section` about the unnumbered parts after a part with the number `after`, up to the next
-- numbered part. If `after` is 0, about the parts before the first numbered part. `before` is the number of the last
-- numbered part before the list; 0 if there is none.
abbrev pub lone_after : Section → Language → Day → ℕ → ℕ → List DamagedPart → List ℕ
lone_after section l s after before [] = []
lone_after section l s after before (part ∷ parts) =
    (if is_none part.numbers && before == after then lone_in section l s after part else [])
    ++ lone_after section l s after (number_or before part.numbers) parts

-- The text of section `section` about the part that is shown under a part number. If no part is shown, the text about
-- a part that didn't come; `reason` is the sentence that says so.
abbrev pub shown_in : Section → Language → Day → PartName → List ℕ → ℕ → Option DamagedPart → List ℕ
shown_in section l s name reason times (Some part) = part_in section l s name times part
shown_in section l s name reason times None = missing_in section l name reason

-- the text of section `section` about the part with number `number`, then about the unnumbered parts after this part
abbrev pub number_in : Section → Language → Day → List DamagedPart → ℕ → List ℕ
number_in section l s parts number =
    shown_in section l s (part_name (results_of section) s number (total_of parts)) (missing_reason l parts)
    (times_of parts number) (shown_under parts number)
    ++ lone_after section l s number 0 parts

-- The text of section `section` about the parts of one message, in the order of their numbers. First come the
-- unnumbered parts at the beginning of the form. After each numbered part stand the unnumbered parts that came between
-- it and the next numbered part.
abbrev pub by_number : Section → Language → Day → List DamagedPart → List ℕ
by_number section l s parts =
    lone_after section l s 0 0 parts ++ flat_map (number_in section l s parts) (range_with_len 1 (total_of parts))

-- ---- Parts that aren't of one message, as they came. Each part's sheet has the number of the part's place.

abbrev pub name_at : Results → Day → ℕ → PartNumbers → PartName
name_at results s place numbers = record {
  model = day_model s;
  day = day_number s;
  sheet = place;
  part = numbers.part;
  parts = numbers.parts;
  results = results;
}

-- The text of section `section` about the part that has the place `place` in the order of arrival. `before` is the
-- number of the last numbered part before this part.
abbrev pub part_at : Section → Language → Day → ℕ → ℕ → Option PartNumbers → DamagedPart → List ℕ
part_at section l s place before (Some numbers) part =
    part_in section l s (name_at (results_of section) s place numbers) 1 part
part_at section l s place before None part = lone_in section l s before part

-- The text of section `section` about `parts`, in the order of arrival. The first of these parts has the place `place`
-- in this order. `before` is the number of the last numbered part before it.
abbrev pub as_they_came : Section → Language → Day → ℕ → ℕ → List DamagedPart → List ℕ
as_they_came section l s place before [] = []
as_they_came section l s place before (part ∷ parts) =
    part_at section l s place before part.numbers part
    ++ as_they_came section l s (place + 1) (number_or before part.numbers) parts

-- A section, with the parts in the order of their numbers. If the parts aren't of one message, they stand in the order
-- of arrival.
abbrev pub section_text : Section → Language → Day → List DamagedPart → List ℕ
section_text section l s parts =
    if is_one_message parts then by_number section l s parts else as_they_came section l s 1 0 parts

-- ---- The page.

-- the greatest number of sheets that the page can have
abbrev pub sheet_count : List DamagedPart → ℕ
sheet_count parts = max (total_of parts) (length parts)

-- The file. It has the list of the sheets, a sheet for each part that is read, and a last sheet with the texts of all
-- parts. The last sheet also says what to ask the other station for. If `results` are left open, the file has neither
-- the texts nor the windows that the machine shows.
unfoldable pub receive_text : Results → Language → Day → List DamagedPart → List ℕ
receive_text results l s parts =
    title_text l (text_in l texts.TITLE_TO_RECEIVE) s ++ list_head l (sheet_count parts)
    ++ section_text sections.Listed l s parts ++ text_in l texts.LIST_END_WITH_TEXT
    ++ section_text (sections.Worked results) l s parts ++ text_sheet_head l s ++ passed_text l parts ++ order_text l parts
    ++ section_text (sections.Texts results) l s parts
    ++ text_if (is_any_read parts) (note l (sheet_to_receive (day_model s)) (day_model s))
    ++ texts.ARTICLE_END.now ++ FOOT.now

-- all notes that are written to standard error about the form
unfoldable pub receive_notes : Language → Day → List DamagedPart → List ℕ
receive_notes l s parts = several_note l parts ++ section_text sections.Noted l s parts

-- ---- The answer.

-- What `write_receive_page` answers:
-- - `ReceivedPageWritten`: the page was written, and the answer says whether the parts are one whole message. Or the
--   sink failed, and only a prefix of the page was written.
-- - `FormNotRead`: nothing was written, since the form has too many parts, or memory is short.
pub data IsReceivePageAnswer (results : Results) (l : Language) (s : Day) (form : List ℕ) (sink : Port)
    (answer : Result Bool (WriteFault DamagedFormFault)) : Type 0 where
  ReceivedPageWritten : (parts : List DamagedPart) → AreFormParts s form parts
      → length (damaged_parts_of form) ≤ 255 → Writes sink.had sink.has (receive_text results l s parts) answer
      → MatchResult answer (λ whole. IsTrue whole ↔ IsWhole parts) (λ fault. fault ≡ Device)
      → sink.has_failed ≡ (sink.had_failed || is_err answer)
      → IsReceivePageAnswer results l s form sink answer
  FormNotRead : (fault : DamagedFormFault) → IsFormFault (damaged_parts_of form) fault
      → answer ≡ Err (Unwritten fault) → IsUntouched sink
      → IsReceivePageAnswer results l s form sink answer

-- `Told` holds for the notes that are written about the form. If the form has too many parts, or memory is short, there
-- may be no notes.
pub data IsFormNoted (l : Language) (s : Day) (form : List ℕ) (Told : List ℕ → Type 0)
    (answer : Result Bool (WriteFault DamagedFormFault)) : Type 0 where
  Noted : (parts : List DamagedPart) → AreFormParts s form parts → Told (receive_notes l s parts)
      → IsFormNoted l s form Told answer
  NotNoted : (fault : DamagedFormFault) → answer ≡ Err (Unwritten fault) → IsFormNoted l s form Told answer

-- ---- What the code holds. No public contract cites these definitions.

-- If a text is shown for the part, the machine can show the letters of this text's keys. The shown text is the part's
-- text or, if there is none, its text by count.
abbrev pub HasShowableKeys : Day → DamagedPart → Type 0
HasShowableKeys s part = IfSome (shown_text part) (λ shown. AreShowable s shown.keys)

-- For each part with a text, the machine can show the letters of this text's keys.
abbrev pub AreWorkable : Day → List DamagedPart → Type 0
AreWorkable s parts = All (HasShowableKeys s) parts

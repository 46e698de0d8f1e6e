-- The notes on standard error about a form: what is wrong with its parts, and what to ask for. The notes use the page's
-- words.
-- Test: tests/cases/curator-messages.toml
use Rattle.std.specs.Prelude.{decimal, ℕ, false, if◌then◌else◌, List, [], ◌∷◌, ◌++◌}
use Rattle.std.specs.Prelude.{Option, Some, None, Result, Ok, Err}
use Rattle.kd_tables.specs.declared.model.Model.{Model}
use Rattle.kd_lost.specs.declared.damage.PartDamage.{PartDamage}
use Rattle.kd_lost.specs.declared.damaged_text.DamagedText.{DamagedText}
use Rattle.kd_lost.specs.declared.damaged_text.GroupTest.{GroupTest}
use Rattle.kd_lost.specs.declared.part.DamagedPart.{DamagedPart}
use Rattle.kd_language.specs.declared.language.Language.{Language}
use Rattle.kd_language.specs.Language.{text_in}
use Rattle.kd_language.specs.Template.{filled}
use Rattle.kd_part_sheet.specs.declared.part_sheet.PartName.{PartName}
use Rattle.kd_part_sheet.specs.Rows.{pieces}
use Rattle.kd_message.specs.declared.texts.TheConstants as texts
use Rattle.kd_message.specs.LoneParts.{lone_asked, lone_reason, lone_words}
use Rattle.kd_message.specs.TextSheet.{asked_words, count_asked, counted_reason, day_groups, first_text_group}
use Rattle.kd_message.specs.TextSheet.{groups_told, has_lost}
use Rattle.kd_message.specs.TextSheet.{lost_groups, reason_text}
use Rattle.kd_lost.specs.Texts.{is_wrong_day}

-- the words for a part's number, at the start of a note about the part
abbrev pub note_name : Language → PartName → List ℕ
note_name l name = filled (text_in l texts.NOTE_PART) (decimal name.part ∷ decimal name.parts ∷ [])

-- a note about a part: its number, what is wrong, and what to ask for
unfoldable pub note_line : Language → PartName → List ℕ → List ℕ → List ℕ
note_line l name reason words =
    note_name l name ++ reason ++ text_in l texts.NOTE_ASK ++ words ++ texts.NOTE_END.now

-- the note that the form may be from another day or network, and what to ask for
abbrev pub other_day_note : Language → PartName → List ℕ
other_day_note l name = note_line l name (text_in l texts.NOTE_OTHER_DAY) (day_groups l name.model)

-- the note if the part's indicator group or list letters aren't the day's; otherwise empty
abbrev pub day_note : Language → PartName → GroupTest → List ℕ
day_note l name group = if is_wrong_day group then other_day_note l name else []

-- the note that letters are lost; it asks for the groups in which they are lost
abbrev pub lost_line : Language → PartName → List (Option ℕ) → List ℕ
lost_line l name letters =
    note_line l name (text_in l texts.NOTE_LOST)
    (lost_groups l [] false (first_text_group name.model) (pieces 5 letters))

abbrev pub lost_note : Language → PartName → List (Option ℕ) → List ℕ
lost_note l name letters = if has_lost letters then lost_line l name letters else []

-- the notes on a part that is read
unfoldable pub read_note : Language → PartName → DamagedText → List ℕ
read_note l name shown = day_note l name shown.group ++ lost_note l name shown.letters.items

-- The notes on a part that can't be read with the letter count in its heading. `shown` is its text by count, if there
-- is one.
abbrev pub damage_note : Language → PartName → DamagedPart → PartDamage → Option DamagedText → List ℕ
damage_note l name part damage (Some shown) =
    note_line l name (counted_reason l part damage ++ groups_told l part.came part.short_group)
    (count_asked l damage part.short_group)
    ++ read_note l name shown
damage_note l name part damage None =
    day_note l name part.group ++ note_line l name (reason_text l part damage) (asked_words l part damage)

abbrev pub part_note_of : Language → PartName → DamagedPart → Result DamagedText PartDamage → List ℕ
part_note_of l name part (Ok shown) = read_note l name shown
part_note_of l name part (Err damage) = damage_note l name part damage part.by_count

-- the notes on a part; empty if nothing is wrong with the part
abbrev pub part_note : Language → PartName → DamagedPart → List ℕ
part_note l name part = part_note_of l name part part.text

-- the note on a part that didn't come; `reason` is the sentence that says so
abbrev pub missing_note : Language → PartName → List ℕ → List ℕ
missing_note l name reason = note_line l name reason (text_in l texts.ALL_OF_IT)

-- for a part without a number, the words that say what to ask for
abbrev pub lone_asked_note : Language → ℕ → List ℕ
lone_asked_note l came = text_in l texts.NOTE_ASK ++ lone_asked l came ++ texts.ASKED_END.now

abbrev pub lone_ask_note : Language → DamagedPart → List ℕ
lone_ask_note l part = if part.is_order then [] else lone_asked_note l part.came

-- the note on a part without a number; `after` is the number of the last numbered part before it
unfoldable pub lone_note : Language → Model → ℕ → DamagedPart → List ℕ
lone_note l model after part =
    lone_words l after ++ texts.COLON.now ++ lone_reason l model part ++ lone_ask_note l part ++ texts.LINE_END.now

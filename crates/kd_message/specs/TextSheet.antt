-- The sheet that gives the text of a received form, and says what to ask the other station for.
use Rattle.std.specs.Prelude.{decimal, ℕ, ◌+◌, ◌-◌, ◌/◌, ◌==◌, nat_le, nat_lt, ◌&&◌, ◌||◌, not, Bool, true, false, is_none}
use Rattle.std.specs.Prelude.{if◌then◌else◌}
use Rattle.std.specs.Prelude.{List, [], ◌∷◌, ◌++◌, drop, map, Option, Some, None}
use Rattle.kd_tables.specs.declared.model.Model.{Model}
use Rattle.kd_state.specs.SheetDay.{Day, day_model, day_number}
use Rattle.kd_form.specs.Sending.{space_letter}
use Rattle.kd_lost.specs.declared.clash.Clash.{Clash}
use Rattle.kd_lost.specs.declared.damage.PartDamage.{PartDamage}
use Rattle.kd_lost.specs.declared.damage.PartDamage.TheVariants as damages
use Rattle.kd_lost.specs.declared.damaged_text.DamagedText.{DamagedText}
use Rattle.kd_lost.specs.declared.damaged_text.GroupTest.{GroupTest}
use Rattle.kd_lost.specs.declared.damaged_text.GroupTest.TheVariants as tests
use Rattle.kd_lost.specs.declared.damaged_text.LostCopies.{LostCopies}
use Rattle.kd_lost.specs.declared.part.DamagedPart.{DamagedPart}
use Rattle.kd_lost.specs.declared.short_line.ShortLine.{ShortLine}
use Rattle.kd_lost.specs.declared.wrong_sign.WrongSign.{WrongSign}
use Rattle.kd_lost.specs.ByCount.{heading_count, part_line}
use Rattle.kd_lost.specs.Clash.{clash_of}
use Rattle.kd_lost.specs.DamagedForm.{shown_byte}
use Rattle.kd_language.specs.declared.language.Language.{Language}
use Rattle.kd_language.specs.Language.{text_in}
use Rattle.kd_language.specs.Template.{filled}
use Rattle.kd_pictures.specs.Words.{is_converter, model_name}
use Rattle.kd_part_sheet.specs.declared.markup.TheConstants.{COMMA}
use Rattle.kd_part_sheet.specs.declared.part_sheet.PartName.{PartName}
use Rattle.kd_pictures.specs.declared.results.Results.{Results}
use Rattle.kd_pictures.specs.declared.results.Results.TheVariants.{LeftOpen, Shown}
use Rattle.kd_part_sheet.specs.declared.part_sheet.Warnings.{Warnings}
use Rattle.kd_part_sheet.specs.declared.sheet.Sheet.{Sheet}
use Rattle.kd_message.specs.declared.texts.TheConstants as texts
use Rattle.kd_message.specs.ClashWords.{clash_paragraph}
use Rattle.kd_part_sheet.specs.PartSheet.{warnings_text}
use Rattle.kd_part_sheet.specs.Rows.{pieces}
use Rattle.kd_lost.specs.ShownParts.{are_in_order, numbers_of}
use Rattle.kd_lost.specs.Texts.{is_wrong_day}

-- the head of the sheet with the text: a title that gives the model and the day, and fields to fill in
abbrev pub text_sheet_head : Language → Day → List ℕ
text_sheet_head l s = filled (text_in l texts.TEXT_SHEET) (model_name (day_model s) ∷ decimal (day_number s) ∷ [])

-- the head of a part: its number, the number of parts, the model, and the day
abbrev pub text_part_head : Language → PartName → List ℕ
text_part_head l name = filled (text_in l texts.TEXT_PART) (
    decimal name.part ∷ decimal name.parts ∷ model_name name.model ∷ decimal name.day ∷ [])

-- the list `numbers`, with `first` before its first number, and a comma before each later number
abbrev pub numbers_after : List ℕ → List ℕ → List ℕ
numbers_after first [] = []
numbers_after first (number ∷ numbers) = first ++ decimal number ++ numbers_after COMMA.now numbers

-- the sentence which says that the parts came in the order of `numbers`
unfoldable pub order_words : Language → List ℕ → List ℕ
order_words l numbers = text_in l texts.ORDER ++ numbers_after [] numbers ++ text_in l texts.ORDER_END

-- The sentence about all parts together. The last argument has the first two parts that aren't of one message, if any:
-- - if there are such parts: the paragraph that names them
-- - otherwise, if the parts came in the order of their numbers: no sentence
-- - in all other cases: the sentence that gives the order in which the parts came
abbrev pub order_text_of : Language → List DamagedPart → Option Clash → List ℕ
order_text_of l parts (Some clash) = clash_paragraph l parts clash
order_text_of l parts None = if are_in_order 0 (numbers_of parts) then [] else order_words l (numbers_of parts)

abbrev pub order_text : Language → List DamagedPart → List ℕ
order_text l parts = order_text_of l parts (clash_of parts)

-- ---- What was passed over.

-- whether needless blanks in the part's heading were dropped, or the part has tabs or small letters
abbrev pub is_smoothed : DamagedPart → Bool
is_smoothed part = part.respaced || not part.as_spelled

abbrev pub is_any_smoothed : List DamagedPart → Bool
is_any_smoothed [] = false
is_any_smoothed (part ∷ parts) = is_smoothed part || is_any_smoothed parts

-- whether lines of the form stand before its first part
abbrev pub begins_late : List DamagedPart → Bool
begins_late [] = false
begins_late (part ∷ parts) = nat_lt 1 part.line

-- The sentence which says that not all of the form was read as it stands. Some lines or blanks were passed over, or
-- tabs or small letters were read as spaces or capitals. Empty if all of the form was read as it stands.
abbrev pub passed_text : Language → List DamagedPart → List ℕ
passed_text l parts =
    if begins_late parts || is_any_smoothed parts then text_in l texts.PASSED_OVER else []

-- the sentence which says that a part came `times` times
unfoldable pub came_words : Language → ℕ → List ℕ
came_words l times = text_in l texts.CAME ++ decimal times ++ text_in l texts.CAME_END

abbrev pub came_text : Language → ℕ → List ℕ
came_text l times = if nat_lt 1 times then came_words l times else []

-- ---- What to ask the other station for.

-- the checkbox to ask for a repetition of part `part`; `words` say what to repeat
unfoldable pub ask_text : Language → ℕ → List ℕ → List ℕ
ask_text l part words = filled (text_in l texts.ASK) (decimal part ∷ []) ++ words ++ texts.ASK_END.now

-- the words for group `number`, such as *group 3*
abbrev pub group_words : Language → ℕ → List ℕ
group_words l number = text_in l texts.GROUP ++ decimal number

-- the words for the groups from `first` to `last`
unfoldable pub groups_words : Language → ℕ → ℕ → List ℕ
groups_words l first last =
    text_in l texts.GROUPS ++ decimal first ++ text_in l texts.TO_GROUP ++ decimal last

-- the words for the group `number` and the `more` groups after it, such as *groups 3 to 5*
abbrev pub range_words : Language → ℕ → ℕ → List ℕ
range_words l number more = if more == 0 then group_words l number else groups_words l number (number + more)

-- whether one of the letters is lost
abbrev pub has_lost : List (Option ℕ) → Bool
has_lost [] = false
has_lost (letter ∷ letters) = is_none letter || has_lost letters

-- how many groups at the start of the list have lost letters, up to the first group with no lost letter
abbrev pub run_length : List (List (Option ℕ)) → ℕ
run_length [] = 0
run_length (group ∷ groups) = if has_lost group then run_length groups + 1 else 0

-- The words for the groups with lost letters in a list that begins with group `number`. Groups in a row are named
-- together, as *groups 3 to 5*. `first` stands before the first words, and commas stand between the words. If `before`
-- is true, the group just before the list also has lost letters. Then this group is already named, together with the
-- groups with lost letters at the start of the list. So these groups are left out.
abbrev pub lost_groups : Language → List ℕ → Bool → ℕ → List (List (Option ℕ)) → List ℕ
lost_groups l first before number [] = []
lost_groups l first before number (group ∷ groups) =
    if has_lost group && not before
    then first ++ range_words l number (run_length groups) ++ lost_groups l COMMA.now true (number + 1) groups
    else lost_groups l first (has_lost group) (number + 1) groups

-- the number of the group with which the text begins
abbrev pub first_text_group : Model → ℕ
first_text_group model = if is_converter model then 3 else 2

-- The place of key letter `number` in the first copy of the indicators, counted from 1. The chosen letter, number 0,
-- has the places 1 and 2: the answer is 1.
abbrev pub indicator_place : ℕ → ℕ
indicator_place number = if number == 0 then 1 else number + 2

-- which of the first two groups has key letter `number`: group 1 or group 2
abbrev pub key_letter_group : ℕ → ℕ
key_letter_group number = if nat_le (indicator_place number) 5 then 1 else 2

-- The words for the two groups with key letter `number`, in a body of `came` letters. One is among the first two
-- groups, the other among the last two.
unfoldable pub key_letter_groups : Language → ℕ → ℕ → List ℕ
key_letter_groups l came number =
    group_words l (key_letter_group number) ++ COMMA.now ++ group_words l (came / 5 - 2 + key_letter_group number)

-- the words for the groups that have the indicators: the first two and the last two groups of a body of `came` letters
unfoldable pub indicator_groups : Language → ℕ → List ℕ
indicator_groups l came =
    groups_words l 1 2 ++ COMMA.now ++ groups_words l (came / 5 - 1) (came / 5)

-- ---- A part that is read.

-- whether a letter is lost in some copy of the indicators
abbrev pub is_copy_lost : Option LostCopies → Bool
is_copy_lost None = false
is_copy_lost (Some copies) = copies.at_start || copies.at_end

-- whether the part's day couldn't be tested: a letter of the indicator group is lost, or a list letter is lost in both
-- copies
abbrev pub is_not_tested : GroupTest → Bool
is_not_tested tests.Right = false
is_not_tested tests.Wrong = false
is_not_tested tests.NotTested = true

-- the warnings of a part that is read
abbrev pub warnings_of : DamagedText → Warnings
warnings_of shown = record {
  letters_lost = has_lost shown.received.items;
  copies_lost = is_copy_lost shown.copies && not (is_not_tested shown.group);
  wrong_day = is_wrong_day shown.group;
  not_tested = is_not_tested shown.group;
}

-- The start of a text. It says where lines may break: between any letters or, on a Converter, between words.
abbrev pub text_begin : Model → List ℕ
text_begin model = if is_converter model then texts.TEXT_WORDS.now else texts.TEXT_LETTERS.now

-- the checkbox to ask for the groups with lost letters; empty if no letter is lost
abbrev pub ask_for_lost : Language → PartName → List (Option ℕ) → List ℕ
ask_for_lost l name letters =
    if has_lost letters
    then ask_text l name.part (lost_groups l [] false (first_text_group name.model) (pieces 5 letters))
    else []

-- the words for the groups that show the day: the group with the indicator group or, on a Converter, the two groups
-- with list letters
abbrev pub day_groups : Language → Model → List ℕ
day_groups l model = if is_converter model then text_in l texts.LIST_GROUPS else text_in l texts.DAY_GROUP

-- the checkbox to ask for the groups that show the day; empty if they don't show another day
abbrev pub ask_for_day : Language → PartName → GroupTest → List ℕ
ask_for_day l name group = if is_wrong_day group then ask_text l name.part (day_groups l name.model) else []

-- for a part that is read, all checkboxes to ask for groups
abbrev pub group_requests : Language → PartName → DamagedText → List ℕ
group_requests l name shown = ask_for_day l name shown.group ++ ask_for_lost l name shown.letters.items

-- `?` for a lost letter, otherwise `_`, a line to write on
abbrev pub open_byte : Option ℕ → ℕ
open_byte (Some letter) = 95
open_byte None = 63

-- The letters of a text, with `?` for each lost letter. If the results are left open, a line to write on stands for
-- each letter that isn't lost.
abbrev pub text_letters : Results → Day → List (Option ℕ) → List ℕ
text_letters Shown s letters = map (shown_byte (space_letter s)) letters
text_letters LeftOpen s letters = map open_byte letters

-- the text of a part, with `?` for each lost letter; then the warnings, and the groups to ask for
unfoldable pub read_text : Language → Sheet → Day → PartName → DamagedText → List ℕ
read_text l sheet s name shown =
    text_begin name.model ++ text_letters name.results s shown.letters.items ++ texts.TEXT_END.now
    ++ warnings_text l sheet (warnings_of shown) ++ group_requests l name shown

-- ---- A part that isn't read.

-- The words for line `number` of a part, such as *Line 12*. They give the line's number in the form: the part begins on
-- line `line` of the form.
abbrev pub line_words : Language → ℕ → ℕ → List ℕ
line_words l line number = text_in l texts.LINE ++ decimal (line + number - 1)

-- the sentence about a fault in a heading: the words for the heading's line, `line`, and then the text `fault`
unfoldable pub heading_fault : Language → ℕ → List ℕ → List ℕ
heading_fault l line fault = line_words l line 1 ++ fault

-- the words for a wrong sign: the digit itself, or "this sign" for any other sign
abbrev pub sign_words : Language → ℕ → List ℕ
sign_words l byte = if nat_le 48 byte && nat_le byte 57 then decimal (byte - 48) else text_in l texts.THIS_SIGN

-- The sentence about a wrong sign, with the sign's place. The part begins on line `line` of the form.
unfoldable pub sign_text : Language → ℕ → WrongSign → List ℕ
sign_text l line sign =
    line_words l line sign.line ++ text_in l texts.LETTER_OF_LINE ++ decimal sign.letter ++ texts.COLON.now
    ++ sign_words l sign.byte ++ text_in l texts.NO_LETTER

-- the sentence about a sign in the body that isn't a letter
abbrev pub bad_byte_text : Language → ℕ → Option WrongSign → List ℕ
bad_byte_text l line (Some sign) = sign_text l line sign
bad_byte_text l line None = text_in l texts.BAD_BYTE

-- the words for the group in which a wrong sign stands
abbrev pub sign_group : Language → Option WrongSign → List ℕ
sign_group l (Some sign) = group_words l ((sign.place - 1) / 5 + 1)
sign_group l None = text_in l texts.ALL_OF_IT

-- The words for the groups with a lost letter or a wrong sign, among the first 525 letters of the body. If there is no
-- such group, the words are for the group of the first wrong sign.
abbrev pub sign_groups : Language → DamagedPart → List ℕ
sign_groups l part =
    if has_lost part.body.items then lost_groups l [] false 1 (pieces 5 part.body.items)
    else sign_group l part.wrong_sign

-- The sentence that gives the heading's count, and the number of letters that came. The heading is on line `line` of
-- the form.
unfoldable pub counts_text : Language → ℕ → ℕ → ℕ → List ℕ
counts_text l line counted came =
    line_words l line 1 ++ text_in l texts.COUNT_WRONG ++ decimal counted ++ text_in l texts.COUNT_CAME ++ decimal came
    ++ text_in l texts.COUNT_END

-- The sentence that says how many letters a short line has. The part begins on line `line` of the form.
unfoldable pub short_words : Language → ℕ → ShortLine → List ℕ
short_words l line short =
    texts.GAP.now ++ line_words l line short.line ++ text_in l texts.LINE_HAS ++ decimal short.letters
    ++ text_in l texts.FULL_LINE

abbrev pub short_text : Language → ℕ → Option ShortLine → List ℕ
short_text l line (Some short) = short_words l line short
short_text l line None = []

-- If the count is wrong or damaged, the words that say what to ask for:
-- - if a group is short: the count, and the first short group
-- - if no group is short, and the count is damaged: the count
-- - if no group is short, and the count is wrong: the count, or the part's lines if the other station says that the
--   count is right
abbrev pub count_asked : Language → PartDamage → Option ℕ → List ℕ
count_asked l damage (Some group) = text_in l texts.ITS_COUNT ++ COMMA.now ++ group_words l group
count_asked l damages.HeadingDamaged None = text_in l texts.ITS_COUNT
count_asked l _ None = text_in l texts.ITS_COUNT_OR_LINES

-- If a part isn't read because its count is wrong, the words that say what to ask for. If a short line explains the
-- wrong count, the words name the ten groups of this line. Otherwise, they are the words of `count_asked`.
abbrev pub short_groups : Language → Option ℕ → Option ShortLine → List ℕ
short_groups l group (Some short) = groups_words l (short.before / 5 + 1) (short.before / 5 + 10)
short_groups l group None = count_asked l damages.CountWrong group

-- The sentences about a wrong count: the heading's count, and the number of letters that came. If a short line
-- explains the difference, also how many letters it has.
unfoldable pub count_text : Language → DamagedPart → List ℕ
count_text l part =
    counts_text l part.line (heading_count part.numbers) part.came ++ short_text l part.line (part_line part)

-- the sentence that says why a part isn't read
abbrev pub reason_text : Language → DamagedPart → PartDamage → List ℕ
reason_text l part damages.HeadingDamaged = heading_fault l part.line (text_in l texts.HEADING_DAMAGED)
reason_text l part damages.HeadingKeyLost = heading_fault l part.line (text_in l texts.HEADING_KEY_LOST)
reason_text l part damages.BadByte = bad_byte_text l part.line part.wrong_sign
reason_text l part damages.CountWrong = count_text l part
reason_text l part (damages.CopiesDiffer number) =
    filled (text_in l texts.COPIES_DIFFER) (decimal (indicator_place number) ∷ [])
reason_text l part (damages.KeyLetterLost number) =
    filled (text_in l texts.KEY_LETTER_LOST) (decimal (indicator_place number) ∷ [])
reason_text l part damages.KeyNotOnWheel = text_in l texts.KEY_NOT_ON_WHEEL
reason_text l part damages.NoInternalKey = text_in l texts.NO_INTERNAL_KEY

-- If a letter of the ground setting or of the enciphered key is lost, the words that say what to ask for. The words
-- name both keys, and each group of the text with a lost letter or a wrong sign. `body` has the letters of the body;
-- its text begins with the second group.
abbrev pub keys_and_groups : Language → List (Option ℕ) → List ℕ
keys_and_groups l body = text_in l texts.ITS_KEYS ++ lost_groups l COMMA.now false 2 (pieces 5 (drop 5 body))

-- for a part that isn't read, the words that say what to ask for
abbrev pub asked_words : Language → DamagedPart → PartDamage → List ℕ
asked_words l part damages.HeadingDamaged =
    if part.came == 0 then text_in l texts.ALL_OF_IT else text_in l texts.ITS_HEADING
asked_words l part damages.HeadingKeyLost = keys_and_groups l part.body.items
asked_words l part damages.BadByte = sign_groups l part
asked_words l part damages.CountWrong = short_groups l part.short_group (part_line part)
asked_words l part (damages.CopiesDiffer number) = key_letter_groups l part.came number
asked_words l part (damages.KeyLetterLost number) = group_words l (key_letter_group number)
asked_words l part damages.KeyNotOnWheel = indicator_groups l part.came
asked_words l part damages.NoInternalKey = indicator_groups l part.came

-- The paragraph about a part that isn't read: the reason `reason`, and the checkbox to ask for a repetition. `words`
-- say what to repeat.
unfoldable pub unread_text : Language → PartName → List ℕ → List ℕ → List ℕ
unread_text l name reason words =
    text_in l texts.UNREAD ++ reason ++ texts.REASON_END.now ++ ask_text l name.part words

-- the only possible warning about a part that isn't read: that the part may be of another day
abbrev pub unread_warnings : GroupTest → Warnings
unread_warnings group =
    record { letters_lost = false; copies_lost = false; wrong_day = is_wrong_day group; not_tested = false }

-- The paragraph about a part that isn't read. If its group or list letters are of another day, a warning and a checkbox
-- to ask for them follow.
abbrev pub damage_text : Language → Sheet → PartName → DamagedPart → PartDamage → List ℕ
damage_text l sheet name part damage =
    unread_text l name (reason_text l part damage) (asked_words l part damage)
    ++ warnings_text l sheet (unread_warnings part.group) ++ ask_for_day l name part.group

-- the paragraph about a part that didn't come; `reason` is the sentence that says so
abbrev pub missing_text : Language → PartName → List ℕ → List ℕ
missing_text l name reason = unread_text l name reason (text_in l texts.ALL_OF_IT)

-- ---- A part that is read by the letters that came, since its count is wrong or damaged.

-- The sentence that says that the count in the heading is damaged, and how many letters came. The heading is on line
-- `line` of the form.
unfoldable pub damaged_count : Language → ℕ → ℕ → List ℕ
damaged_count l line came =
    line_words l line 1 ++ text_in l texts.COUNT_DAMAGED ++ decimal came ++ text_in l texts.COUNT_DAMAGED_END

-- the sentence that says what is wrong with the count
abbrev pub counted_reason : Language → DamagedPart → PartDamage → List ℕ
counted_reason l part damages.HeadingDamaged = damaged_count l part.line part.came
counted_reason l part _ = counts_text l part.line (heading_count part.numbers) part.came

-- The sentence that names the first short group. If no group is short, the sentence says that the number of letters
-- that came may be right.
abbrev pub groups_told : Language → ℕ → Option ℕ → List ℕ
groups_told l came (Some group) =
    text_in l texts.SHORT_GROUP ++ decimal group ++ text_in l texts.SHORT_GROUP_END
groups_told l came None = text_in l texts.FULL_GROUPS ++ decimal came ++ text_in l texts.FULL_GROUPS_END

-- The words for a part that is read by count. First comes what is wrong with its count, then its text, and then what to
-- ask for.
unfoldable pub counted_text : Language → Sheet → Day → PartName → DamagedPart → PartDamage → DamagedText → List ℕ
counted_text l sheet s name part damage shown =
    text_in l texts.BY_COUNT ++ counted_reason l part damage ++ groups_told l part.came part.short_group
    ++ texts.REASON_END.now ++ read_text l sheet s name shown
    ++ ask_text l name.part (count_asked l damage part.short_group)

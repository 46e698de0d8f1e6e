-- This crate's laws about the rows of a page, and about the page for receiving a whole message.
use Rattle.std.specs.Prelude.{◌≡◌, ℕ, ◌≤◌, List, [], ◌∷◌, ◌++◌, All, Contains, IsFalse, IsTrue, filter, flat_map, length, map, slice_get, Option, Some, None, Ok}
use Rattle.std.specs.List.{range_with_len}
use Rattle.kd_state.specs.SheetDay.{Day, day_model}
use Rattle.kd_form.specs.PartMaking.{cipher_from}
use Rattle.kd_form.specs.FormText.{IsAnswerAt, IsTextOf, ReadsPartsTo, first_part_start, plaintext_bytes}
use Rattle.kd_form.specs.Sending.{space_letter}
use Rattle.kd_lost.specs.declared.damaged_text.DamagedText.{DamagedText}
use Rattle.kd_lost.specs.declared.part.{DamagedPart.{DamagedPart}, PartNumbers.{PartNumbers}}
use Rattle.kd_lost.specs.DamagedForm.{AreFormParts, form_parts, letters_in, shown_byte}
use Rattle.kd_lost.specs.DamagedPart.{IsDamagedTextAnswer}
use Rattle.kd_lost.specs.Lost.{Completes, covered, is_lost, meant_byte}
use Rattle.kd_part_sheet.specs.declared.cells.Cell.{Cell}
use Rattle.kd_part_sheet.specs.declared.cells.Sign.{Sign}
use Rattle.kd_part_sheet.specs.declared.cells.Sign.TheVariants as signs
use Rattle.kd_part_sheet.specs.Cells.{received_cells}
use Rattle.kd_part_sheet.specs.LettersAfter.{letters_after}
use Rattle.kd_part_sheet.specs.declared.part_sheet.PartName.{PartName}
use Rattle.kd_pictures.specs.declared.results.Results.TheVariants.{Shown}
use Rattle.kd_language.specs.declared.language.Language.{Language}
use Rattle.kd_message.specs.declared.texts.TheConstants.{TEXT_END}
use Rattle.kd_message.specs.ReceivePage.{receive_text, sheet_to_receive}
use Rattle.kd_lost.specs.OneMessage.{letters_agree}
use Rattle.kd_message.specs.ReceivedWork.{received_work}
use Rattle.kd_message.specs.SendPage.{part_name, sheet_number}
use Rattle.kd_lost.specs.ShownParts.{IsWhole, is_number, shown_under, times_of, total_of}
use Rattle.kd_lost.specs.Texts.{lost_in, shown_text}
use Rattle.kd_message.specs.TextSheet.{came_text, read_text, text_begin, text_part_head}

-- The lamps of a row show the ciphertext of the letters that are pressed in this row. At the start of the row, the
-- windows show the letters to which the earlier rows lead.
abbrev pub RowsAreEnciphered : Type 0
RowsAreEnciphered =
    (s : Day) (start before row : List ℕ)
    → cipher_from s start (before ++ row)
    ≡ cipher_from s start before ++ cipher_from s (letters_after s start (length before)) row

-- the letter of a sign; `None` if the sign has no letter, or its letter is lost or left open
abbrev pub letter_of : Sign → Option ℕ
letter_of signs.Nothing = None
letter_of signs.Open = None
letter_of signs.Lost = None
letter_of (signs.Letter letter) = Some letter

-- the cells whose letters the operator presses
abbrev pub pressed_of : List Cell → List Cell
pressed_of cells = filter (λ cell. cell.is_pressed) cells

-- The rows of a part that is read can be deciphered, whatever keys are pressed for the lost letters. The operator sets
-- the windows that the sheet shows, and presses `keys`. Then the machine gives the letters that the sheet shows below
-- the received letters. The sheet shows `?` below a lost letter, and nothing for a space.
abbrev pub RowsAreDeciphered : Type 0
RowsAreDeciphered =
    (s : Day) (part : List ℕ) (shown : DamagedText) (keys : List ℕ) → IsDamagedTextAnswer s part (Ok shown)
    → let pressed = pressed_of (received_work s shown).body in
    let above = map (λ (cell : Cell). letter_of cell.above) pressed in
    Completes above keys
    → pressed ≡ received_cells (space_letter s) above
    (covered above (cipher_from s (received_work s shown).start keys))

-- ---- Whole messages.

-- the letters of a part's text; none if there is no part, or the part isn't read
abbrev pub letters_of_part : Option DamagedPart → List (Option ℕ)
letters_of_part None = []
letters_of_part (Some part) = letters_in part.text

-- the letters of a message: for each part number, the letters of the text that is shown under this number
abbrev pub message_letters : List DamagedPart → List (Option ℕ)
message_letters parts =
    flat_map (λ number. letters_of_part (shown_under parts number)) (range_with_len 1 (total_of parts))

-- If `desk receive` reads a form, the form is one whole message. The page shows a text for each part number. If these
-- texts are joined in the order of the numbers, with an LF at the end, they are the text that `desk receive` gives.
abbrev pub FormsReadAreWhole : Type 0
FormsReadAreWhole =
    (s : Day) (form text : List ℕ) (parts : List DamagedPart) → IsTextOf s form text → AreFormParts s form parts
    → IsWhole parts × (text ≡ map (shown_byte (space_letter s)) (message_letters parts) ++ 10 ∷ [])

-- The page `page` has the text `piece` somewhere.
abbrev pub IsOn : List ℕ → List ℕ → Type 0
IsOn page piece = (before : List ℕ) × (after : List ℕ) × (page ≡ before ++ piece ++ after)

-- Wherever the text `other` has a letter that isn't lost, `text` has the same letter at the same place.
abbrev pub HasLettersOf : DamagedText → DamagedText → Type 0
HasLettersOf text other =
    (place letter : ℕ) → slice_get other.letters.items place ≡ Some (Some letter)
    → slice_get text.letters.items place ≡ Some (Some letter)

-- Suppose that a part has a text, or only a text by count, when it is read without the other parts (`read.alone`). Then
-- the page shows a text under the part's number. The shown text has each letter of the part's text, and has no more
-- lost letters.
abbrev pub NothingReadIsHidden : Type 0
NothingReadIsHidden =
    (l : Language) (s : Day) (form : List ℕ) (parts : List DamagedPart) (read : AreFormParts s form parts)
    (part : DamagedPart) (shown : DamagedText) → Contains read.alone part → shown_text part ≡ Some shown
    → (name : PartName) × (best : DamagedPart) × (text : DamagedText) × IsTrue (is_number name.part part.numbers)
    × IsTrue (is_number name.part best.numbers) × Contains parts best × (shown_text best ≡ Some text)
    × HasLettersOf text shown × (lost_in text ≤ lost_in shown) × (name.results ≡ Shown)
    × IsOn (receive_text Shown l s parts) (read_text l (sheet_to_receive (day_model s)) s name text)

-- the complete text of a part, below the part's head
abbrev pub clear_text : Language → Day → PartName → ℕ → List ℕ → List ℕ
clear_text l s name times letters =
    text_part_head l name ++ came_text l times ++ (text_begin name.model ++ plaintext_bytes s letters ++ TEXT_END.now)

-- The page of a whole message has the complete text of each part: no letter is lost.
abbrev pub WholeMessagesAreOnThePage : Type 0
WholeMessagesAreOnThePage =
    (l : Language) (s : Day) (parts : List DamagedPart) (number : ℕ) → IsWhole parts → 1 ≤ number
    → number ≤ total_of parts
    → (letters : List ℕ) × (letters_of_part (shown_under parts number) ≡ map Some letters)
    × IsOn (receive_text Shown l s parts)
    (clear_text l s (part_name Shown s number (total_of parts)) (times_of parts number) letters)

-- All headings of a whole message give the same number of parts.
abbrev pub WholeMessagesHaveOneTotal : Type 0
WholeMessagesHaveOneTotal =
    (parts : List DamagedPart) (one other : DamagedPart) (numbers others : PartNumbers) → IsWhole parts
    → Contains parts one → Contains parts other → one.numbers ≡ Some numbers → other.numbers ≡ Some others
    → numbers.parts ≡ others.parts

-- In a whole message, compare the part that came first with a later part that has the same part number. If both parts
-- are read, their bodies have equally many letters. At each place, the letters of the two bodies are equal, unless one
-- of them is lost.
abbrev pub RepetitionsHaveTheLetters : Type 0
RepetitionsHaveTheLetters =
    (one other : DamagedPart) (others : List DamagedPart) (numbers again : PartNumbers) (shown later : DamagedText)
    → IsWhole (one ∷ others) → Contains others other → one.numbers ≡ Some numbers → other.numbers ≡ Some again
    → numbers.part ≡ again.part → one.text ≡ Ok shown → other.text ≡ Ok later
    → IsTrue (letters_agree shown.received.items later.received.items)

-- ---- The converse.

-- The part has no small letter, no tab, and no lost letter.
abbrev pub IsClear : List ℕ → Type 0
IsClear part = All (λ byte. IsFalse (is_lost byte) × (meant_byte byte ≡ byte)) part

-- Take a form that is one whole message, with no lost letter, no small letter, no tab, and no needless blank in a
-- heading. The form may have copies of parts. From one part for each number, in the order of the numbers,
-- `desk receive` gives the text that the page shows.
abbrev pub WholeMessagesAreRead : Type 0
WholeMessagesAreRead =
    (s : Day) (form : List ℕ) (parts : List DamagedPart) → AreFormParts s form parts
    → All IsClear (form_parts form) → All (λ part. IsFalse part.respaced) parts → IsWhole parts
    → (ordered : List (List ℕ)) × (letters : List ℕ) × All (Contains (form_parts form)) ordered
    × (length ordered ≡ total_of parts) × ReadsPartsTo s (IsAnswerAt s (Ok tt)) first_part_start ordered letters
    × (map (shown_byte (space_letter s)) (message_letters parts) ≡ plaintext_bytes s letters)

-- ---- Files of several orders.

-- In a file of several orders, no two parts have the same sheet number. An order has at most 99 parts.
abbrev pub SheetsHaveTheirOwnNumbers : Type 0
SheetsHaveTheirOwnNumbers =
    (order other part later : ℕ) → 1 ≤ part → part ≤ 99 → 1 ≤ later → later ≤ 99
    → sheet_number (Some order) part ≡ sheet_number (Some other) later → (order ≡ other) × (part ≡ later)

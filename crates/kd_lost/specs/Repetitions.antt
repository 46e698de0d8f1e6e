-- Parts that came several times: a letter that is lost in one copy of a part is taken from another copy. Copies have
-- the same part number, the same keys, and equally many letters.
-- Test: tests/cases/curator-messages.toml
use Rattle.std.specs.Prelude.{ℕ, ◌+◌, ◌==◌, ◌&&◌, Bool, true, false, if◌then◌else◌, is_some, slice_index_or}
use Rattle.std.specs.Prelude.{List, [], ◌∷◌, ◌++◌, length, slice_get, Option, Some, None}
use Rattle.kd_lost.specs.declared.damaged_text.DamagedText.{DamagedText}
use Rattle.kd_lost.specs.declared.part.{DamagedPart.{DamagedPart}, PartNumbers.{PartNumbers}}
use Rattle.kd_lost.specs.DamagedPart.{first_line}
use Rattle.kd_lost.specs.Lost.{is_lost, received_letter}
use Rattle.kd_lost.specs.OneMessage.{are_of_one_message, same_keys}
use Rattle.kd_lost.specs.Texts.{shown_text, text_within}
use Rattle.kd_lost.specs.Tidy.{from_line_end}

-- ---- Copies.

-- whether two headings give the same part number and number of parts, or both are damaged
abbrev pub is_same_part : Option PartNumbers → Option PartNumbers → Bool
is_same_part (Some one) (Some other) = one.part == other.part && one.parts == other.parts
is_same_part None None = true
is_same_part (Some one) None = false
is_same_part None (Some other) = false

-- whether two texts have the same keys and equally many received letters
abbrev pub has_keys_of : DamagedText → DamagedText → Bool
has_keys_of one other =
    same_keys one.keys other.keys && length one.received.items == length other.received.items

-- The received letter at `place` of `text`, if `text` is a copy of the text `shown`. `None` if it isn't a copy, or if
-- the letter is lost. `same` says whether the parts of the two texts have the same number.
abbrev pub letter_of_copy : Bool → DamagedText → ℕ → Option DamagedText → Option ℕ
letter_of_copy same shown place None = None
letter_of_copy same shown place (Some text) =
    if same && has_keys_of shown text then slice_index_or text.received.items place None else None

-- The received letter at `place` of `other`, if `other` is a copy of the part `read`. `None` if it isn't a copy, or if
-- the letter is lost. `shown` is the text of `read`.
abbrev pub copied_letter : DamagedPart → DamagedText → ℕ → DamagedPart → Option ℕ
copied_letter read shown place other =
    letter_of_copy (is_same_part read.numbers other.numbers) shown place (shown_text other)

-- the first letter or, if it is lost, the second letter
abbrev pub letter_or : Option ℕ → Option ℕ → Option ℕ
letter_or (Some letter) other = Some letter
letter_or None other = other

-- The received letter at `place` of the part `read`. It comes from the first copy of this part in which the letter
-- isn't lost.
abbrev pub known_letter : List DamagedPart → DamagedPart → DamagedText → ℕ → Option ℕ
known_letter [] read shown place = None
known_letter (copy ∷ copies) read shown place =
    letter_or (copied_letter read shown place copy) (known_letter copies read shown place)

-- ---- A part with the letters of its copies.

-- for a lost letter that a copy has: the copy's letter; for any other byte: `byte` itself
unfoldable pub completed_byte : Option ℕ → ℕ → ℕ
completed_byte (Some letter) byte = if is_lost byte then letter + 65 else byte
completed_byte None byte = byte

-- The bytes of a body, with letters from the part's copies in place of lost letters. The first letter among these bytes
-- has the place `place` in the body.
abbrev pub completed_from : List DamagedPart → DamagedPart → DamagedText → ℕ → List ℕ → List ℕ
completed_from copies read shown place [] = []
completed_from copies read shown place (byte ∷ bytes) =
    completed_byte (known_letter copies read shown place) byte
    ∷ completed_from copies read shown (if is_some (received_letter byte) then place + 1 else place) bytes

-- The part, with letters from its copies in place of lost letters. A part without a text is unchanged. `read` is the
-- result of reading the part without its copies.
abbrev pub completed_with : List DamagedPart → DamagedPart → Option DamagedText → List ℕ → List ℕ
completed_with copies read None part = part
completed_with copies read (Some shown) part =
    first_line part ++ completed_from copies read shown 0 (from_line_end part)

-- The part `part`, with letters from its copies in place of lost letters. `copies` are all parts of the form, each read
-- without the others. `read` is the result of reading `part` without the others.
abbrev pub completed_of : List DamagedPart → Option DamagedPart → List ℕ → List ℕ
completed_of copies None part = part
completed_of copies (Some read) part = completed_with copies read (shown_text read) part

-- the part at place `index` of the form, with letters from its copies in place of lost letters
abbrev pub completed_at : List DamagedPart → ℕ → List ℕ → List ℕ
completed_at copies index part = completed_of copies (slice_get copies index) part

-- ---- Which parts complete each other.

-- the parts that may complete each other: all parts, if they are of one message; otherwise none
abbrev pub copies_in : List DamagedPart → List DamagedPart
copies_in parts = if are_of_one_message parts then parts else []

-- whether the part keeps its number and its known letters when the part is read again with letters from its copies
abbrev pub is_kept : DamagedPart → DamagedPart → Bool
is_kept alone again = is_same_part alone.numbers again.numbers && text_within (shown_text alone) (shown_text again)

-- whether each part, read again, keeps its number and its letters
abbrev pub are_kept : List DamagedPart → List DamagedPart → Bool
are_kept [] [] = true
are_kept (alone ∷ parts) (again ∷ others) = is_kept alone again && are_kept parts others
are_kept [] (again ∷ others) = false
are_kept (alone ∷ parts) [] = false

-- the second reading, `again`, if each part has kept its number and its letters; otherwise the first reading, `alone`
abbrev pub completed_or : List DamagedPart → List DamagedPart → List DamagedPart
completed_or alone again = if are_kept alone again then again else alone

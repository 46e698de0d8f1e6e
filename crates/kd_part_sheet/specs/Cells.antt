-- The cells of a row, one for each letter. A cell has two signs: one above the line to write on, and one below this
-- line.
use Rattle.std.specs.Prelude.{decimal, ℕ, ◌+◌, ◌==◌, true, false, is_some, if◌then◌else◌, List, [], ◌∷◌, map, Option, None, Some}
use Rattle.kd_tables.specs.Rings.{place_on, ring_of}
use Rattle.kd_pictures.specs.Template.{letter_text}
use Rattle.kd_part_sheet.specs.declared.cells.Cell.{Cell}
use Rattle.kd_part_sheet.specs.declared.cells.Sign.{Sign}
use Rattle.kd_part_sheet.specs.declared.cells.Sign.TheVariants as signs
use Rattle.kd_part_sheet.specs.declared.cells.Mark.{Mark}
use Rattle.kd_part_sheet.specs.declared.cells.Mark.TheVariants as marks
use Rattle.kd_part_sheet.specs.declared.cells.Line.{Line}
use Rattle.kd_part_sheet.specs.declared.cells.Line.TheVariants as lines
use Rattle.kd_pictures.specs.declared.results.Results.{Results}
use Rattle.kd_pictures.specs.declared.results.Results.TheVariants.{LeftOpen, Shown}
use Rattle.kd_part_sheet.specs.Markup.{lost_letter, no_letter, struck_out}

abbrev pub sign_text : Sign → List ℕ
sign_text signs.Nothing = no_letter
sign_text signs.Open = no_letter
sign_text signs.Lost = lost_letter
sign_text (signs.Letter letter) = letter_text letter

-- the cell of a letter that the operator copies onto the line, without a key press
abbrev pub copied : ℕ → Cell
copied letter =
    record { above = signs.Nothing; below = signs.Letter letter; is_pressed = false; mark = marks.NoMark }

-- the cell of a letter that is pressed, with the letter of the lamp that has to light up
abbrev pub pressed : ℕ → ℕ → Cell
pressed key lamp =
    record { above = signs.Letter key; below = signs.Letter lamp; is_pressed = true; mark = marks.NoMark }

-- the cells of letters that are pressed, with the letters of their lamps
abbrev pub pressed_cells : List ℕ → List ℕ → List Cell
pressed_cells (key ∷ keys) (lamp ∷ lamps) = pressed key lamp ∷ pressed_cells keys lamps
pressed_cells [] lamps = []
pressed_cells (key ∷ keys) [] = []

-- ---- Letters that came with a form. `None` is a lost letter.

abbrev pub sign_of : Option ℕ → Sign
sign_of None = signs.Lost
sign_of (Some letter) = signs.Letter letter

-- the cell of a received letter that the operator doesn't press; `None` is a lost letter
abbrev pub skipped : Option ℕ → Cell
skipped letter = record { above = sign_of letter; below = signs.Nothing; is_pressed = false; mark = marks.NoMark }

-- the sign of a letter of the text; no sign for the letter `for_space`, which stands for a space
abbrev pub text_sign : Option ℕ → Option ℕ → Sign
text_sign for_space None = signs.Lost
text_sign None (Some letter) = signs.Letter letter
text_sign (Some space) (Some letter) = if letter == space then signs.Nothing else signs.Letter letter

-- The cells of received letters that the operator presses. Below each received letter stands the letter at the same
-- place of the text, or nothing for a space.
abbrev pub received_cells : Option ℕ → List (Option ℕ) → List (Option ℕ) → List Cell
received_cells for_space (key ∷ keys) (letter ∷ text) =
    record { above = sign_of key; below = text_sign for_space letter; is_pressed = true; mark = marks.NoMark }
    ∷ received_cells for_space keys text
received_cells for_space [] text = []
received_cells for_space (key ∷ keys) [] = []

-- ---- The internal key of a Converter: wheels 1 to 6 each take the next letter that they have.

-- The mark of `letter`, the next printed letter, while the internal key is found. `taken` is the last wheel that took a
-- letter; 0 if no wheel took one.
-- - If `taken` is 6, the key is complete, and `letter` isn't needed.
-- - Otherwise, if the next wheel has `letter`, this wheel takes `letter`.
-- - Otherwise, `letter` is struck out.
abbrev pub mark_of : ℕ → ℕ → Mark
mark_of taken letter =
    if taken == 6 then marks.NotNeeded
    else if is_some (place_on (ring_of (taken + 1)) letter) then marks.Taken (taken + 1) else marks.StruckOut

-- The last wheel that took a letter, after one more letter was printed and got the given mark. `taken` is the last
-- wheel that took a letter before; 0 if no wheel took one.
abbrev pub taken_after : ℕ → Mark → ℕ
taken_after taken marks.NoMark = taken
taken_after taken marks.NotNeeded = taken
taken_after taken marks.StruckOut = taken
taken_after taken (marks.Taken wheel) = wheel

-- The cells with which the internal key is found. Each cell has the letter `chosen` above the line to write on. Below
-- this line, it has the letter that was printed for `chosen`, with a mark. `taken` is the last wheel that took a letter
-- before these cells; 0 if no wheel took one.
abbrev pub choice_cells : ℕ → ℕ → List ℕ → List Cell
choice_cells taken chosen [] = []
choice_cells taken chosen (letter ∷ printed) =
    record { above = signs.Letter chosen; below = signs.Letter letter; is_pressed = true; mark = mark_of taken letter }
    ∷ choice_cells (taken_after taken (mark_of taken letter)) chosen printed

-- ---- Worksheets.

-- The cell on a worksheet. If the cell's letter is pressed, the sign below the line to write on is left open, and the
-- cell has no mark.
abbrev pub open_cell : Cell → Cell
open_cell cell = if cell.is_pressed then record cell { below = signs.Open; mark = marks.NoMark } else cell

-- the cell as the sheet shows it: with its result or, if the results are left open, as on a worksheet
abbrev pub cell_with : Results → Cell → Cell
cell_with Shown cell = cell
cell_with LeftOpen cell = open_cell cell

-- the cells as the sheet shows them: with their results or, if the results are left open, as on a worksheet
abbrev pub cells_with : Results → List Cell → List Cell
cells_with results cells = map (cell_with results) cells

-- ---- The texts of a cell.

abbrev pub mark_text : Mark → List ℕ
mark_text marks.NoMark = []
mark_text marks.NotNeeded = no_letter
mark_text marks.StruckOut = struck_out
mark_text (marks.Taken wheel) = decimal wheel

-- what a cell shows in one of the three lines of its group: signs above the line to write on, signs below it, or marks
abbrev pub place_text : Line → Cell → List ℕ
place_text lines.Above cell = sign_text cell.above
place_text lines.Below cell = sign_text cell.below
place_text lines.Marks cell = mark_text cell.mark

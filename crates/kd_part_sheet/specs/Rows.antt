-- The rows of letters in a step of a part's sheet. A row has up to ten groups of five letters, and the number of
-- letters so far. If letters of the row are pressed, the row also has the letters that the machine shows after these
-- key presses.
use Rattle.std.specs.Prelude.{decimal, ℕ, ◌+◌, ◌==◌, ◌||◌, Bool, true, false, not, if◌then◌else◌}
use Rattle.std.specs.Prelude.{List, [], ◌∷◌, ◌++◌, flat_map, length}
use Rattle.std.specs.Int.{div_ceil}
use Rattle.std.specs.List.{count_by}
use Rattle.std.specs.Simd.{first_chunks}
use Rattle.kd_state.specs.SheetDay.{Day, day_model}
use Rattle.kd_pictures.specs.Results.{are_open}
use Rattle.kd_language.specs.Template.{filled}
use Rattle.kd_pictures.specs.Words.{is_converter}
use Rattle.kd_part_sheet.specs.declared.cells.Cell.{Cell}
use Rattle.kd_part_sheet.specs.declared.cells.Line.{Line}
use Rattle.kd_part_sheet.specs.declared.cells.Line.TheVariants as lines
use Rattle.kd_part_sheet.specs.declared.cells.Mark.{Mark}
use Rattle.kd_part_sheet.specs.declared.cells.Mark.TheVariants as marks
use Rattle.kd_part_sheet.specs.declared.cells.Sign.{Sign}
use Rattle.kd_part_sheet.specs.declared.cells.Sign.TheVariants as signs
use Rattle.kd_part_sheet.specs.declared.markup.TheConstants as markup
use Rattle.kd_part_sheet.specs.declared.rows.Progress.{Progress}
use Rattle.kd_pictures.specs.declared.results.Results.{Results}
use Rattle.kd_part_sheet.specs.Cells.{place_text}
use Rattle.kd_part_sheet.specs.LettersAfter.{letters_after}
use Rattle.kd_part_sheet.specs.Markup.{above_end, cell_marks, group_end, group_start, marks_end, small, small_end}
use Rattle.kd_part_sheet.specs.Markup.{space, two_spaces}
use Rattle.kd_part_sheet.specs.Words.{letter_words}

-- `items`, cut into pieces of `size` items; the last piece may be shorter
abbrev pub pieces : {X : Type 0} → ℕ → List X → List (List X)
pieces size items = first_chunks size (div_ceil (length items) size) items

-- ---- A group.

abbrev pub is_nothing : Sign → Bool
is_nothing signs.Nothing = true
is_nothing signs.Open = false
is_nothing signs.Lost = false
is_nothing (signs.Letter letter) = false

-- whether the group's first cell has a received letter that the operator doesn't press
abbrev pub is_skipped : List Cell → Bool
is_skipped [] = false
is_skipped (cell ∷ cells) = if cell.is_pressed then false else not (is_nothing cell.above)

-- the signs above the line to write on, in small print if their letters aren't pressed
abbrev pub above_text : Bool → List Cell → List ℕ
above_text is_small cells =
    if is_small then small ++ flat_map (place_text lines.Above) cells ++ small_end
    else flat_map (place_text lines.Above) cells

-- whether the group has a sign below the line to write on
abbrev pub has_below : List Cell → Bool
has_below [] = false
has_below (cell ∷ cells) = if is_nothing cell.below then has_below cells else true

abbrev pub is_mark : Mark → Bool
is_mark marks.NoMark = false
is_mark marks.NotNeeded = true
is_mark marks.StruckOut = true
is_mark (marks.Taken wheel) = true

-- Whether the group has marks. Its first cell decides: either all cells of a group have a mark, or none.
abbrev pub has_marks : List Cell → Bool
has_marks [] = false
has_marks (cell ∷ cells) = is_mark cell.mark

-- one of the three lines of a group, between the texts `before` and `after`; nothing if `is_there` is false
abbrev pub line_if : Bool → List ℕ → List ℕ → Line → List Cell → List ℕ
line_if is_there before after line cells = if is_there then before ++ flat_map (place_text line) cells ++ after else []

-- a group: the signs above the line to write on, the signs below it, and the marks
unfoldable pub group_text : List Cell → List ℕ
group_text cells =
    group_start ++ above_text (is_skipped cells) cells ++ above_end
    ++ line_if (has_below cells) small small_end lines.Below cells
    ++ line_if (has_marks cells) cell_marks marks_end lines.Marks cells ++ group_end

-- ---- A row.

-- how many letters of a row are pressed
abbrev pub pressed_count : List Cell → ℕ
pressed_count cells = count_by (λ cell. cell.is_pressed) cells

-- the progress of a step after `row`: how many letters the step has so far, and how many of them were pressed
abbrev pub progress_after : Progress → List Cell → Progress
progress_after progress row =
    record { letters = progress.letters + length row; presses = progress.presses + pressed_count row }

-- the letters that the machine shows; on a rotor machine also the numbers of these letters
abbrev pub shown_after : Bool → List ℕ → List ℕ
shown_after is_converter letters =
    if is_converter then letter_words false markup.ROW_LETTERS.now space letters
    else letter_words false markup.ROW_LETTERS.now two_spaces letters
    ++ letter_words true markup.ROW_NUMBERS.now space letters

-- the letters that the machine shows after a row; nothing if they are hidden (the last argument is `true`)
abbrev pub windows_after : Day → List ℕ → ℕ → Bool → List ℕ
windows_after s start presses is_hidden =
    if is_hidden then [] else shown_after (is_converter (day_model s)) (letters_after s start presses)

-- The number at the end of a row. On a Converter, it is what the machine's counter shows: how many letters were pressed
-- in this step. On a rotor machine, it is how many letters the rows have so far.
abbrev pub row_number : Bool → Progress → ℕ
row_number is_converter progress = if is_converter then progress.presses else progress.letters

-- A row: its groups, a checkbox, the row's number, and the windows after the row. The windows are left out on a
-- worksheet. They are also left out if no letter of the row is pressed.
unfoldable pub row_text : Results → Day → List ℕ → Progress → List Cell → List ℕ
row_text results s start progress row =
    markup.ROW.now ++ flat_map group_text (pieces 5 row)
    ++ filled markup.ROW_BOX.now (decimal (row_number (is_converter (day_model s)) progress) ∷ [])
    ++ windows_after s start progress.presses (are_open results || pressed_count row == 0) ++ markup.ROW_END.now

-- The next rows of a step. `progress` counts the letters of the earlier rows. At the start of the step, the machine
-- shows `start`.
abbrev pub rows_after : Results → Day → List ℕ → Progress → List (List Cell) → List ℕ
rows_after results s start progress [] = []
rows_after results s start progress (row ∷ rows) =
    row_text results s start (progress_after progress row) row
    ++ rows_after results s start (progress_after progress row) rows

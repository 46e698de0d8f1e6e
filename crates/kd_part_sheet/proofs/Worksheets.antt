-- A worksheet is the same for all letters that the machine may give.
use Rattle.std.proofs.Common.{◌≡◌, ◌∙◌, ℕ, Bool, true, false, if◌then◌else◌, List, [], ◌∷◌, ◌++◌, length, take, drop, refl, sym, ap, subst}
use Rattle.std.proofs.lemmas.List.{length-map}
use Rattle.kd_state.specs.SheetDay.{Day}
use Rattle.kd_language.specs.declared.language.Language.{Language}
use Rattle.kd_pictures.specs.declared.results.Results.TheVariants.{LeftOpen}
use Rattle.kd_part_sheet.specs.declared.cells.Cell.{Cell}
use Rattle.kd_part_sheet.specs.declared.part_sheet.PartName.{PartName}
use Rattle.kd_part_sheet.specs.declared.part_sheet.Warnings.{Warnings}
use Rattle.kd_part_sheet.specs.declared.rows.Progress.{Progress}
use Rattle.kd_part_sheet.specs.declared.sheet.Sheet.{Sheet}
use Rattle.kd_part_sheet.specs.declared.sheet.Sheet.TheVariants.{PinReceive, PinSend, RotorReceive, RotorSend}
use Rattle.kd_part_sheet.specs.declared.cells.Mark.TheVariants.{NoMark}
use Rattle.kd_part_sheet.specs.declared.cells.Sign.TheVariants.{Open}
use Rattle.kd_part_sheet.specs.Cells.{cell_with, cells_with, open_cell}
unfoldable use Rattle.kd_part_sheet.specs.PartSheet.{key_step, part_sheet, text_step}
use Rattle.kd_part_sheet.specs.PartSheet.{beginning, day_key_text, first_sheet, head_text, legend, name_values, next_sheet}
use Rattle.kd_part_sheet.specs.PartSheet.{note, start_text, text_head, text_if, text_rows, warnings_text}
use Rattle.kd_part_sheet.specs.PartWork.{Work}
unfoldable use Rattle.kd_part_sheet.specs.Rows.{row_text}
use Rattle.kd_part_sheet.specs.Rows.{pieces, progress_after, rows_after}
use Rattle.kd_part_sheet.specs.Sheet.{sheet_text}
use Rattle.kd_part_sheet.specs.Windows.{windows_text}
use Rattle.kd_part_sheet.specs.declared.markup.TheConstants.{SHEET_END}
use Rattle.kd_part_sheet.specs.declared.texts.TheConstants as texts
use Rattle.kd_language.specs.Template.{filled}
use Rattle.kd_pictures.specs.Words.{is_converter}
use Rattle.kd_part_sheet.specs.Worksheets.{AllAskAlike, AskAlike, AskTheSame, WorksheetsHideResults}

row_same : (s : Day) (one other : List ℕ) (progress : Progress) (row : List Cell)
    → row_text LeftOpen s one progress row ≡ row_text LeftOpen s other progress row
unfolding row_text
row_same s one other progress row = refl

-- the windows at the start of a step don't change its rows
rows_same : (s : Day) (one other : List ℕ) (progress : Progress) (rows : List (List Cell))
    → rows_after LeftOpen s one progress rows ≡ rows_after LeftOpen s other progress rows
rows_same s one other progress [] = refl
rows_same s one other progress (row ∷ rows) =
    let next = progress_after progress row in
    λ i. row_same s one other next row i ++ rows_same s one other next rows i

-- `name` on a worksheet
abbrev open_name : PartName → PartName
open_name name = record name { results = LeftOpen }

next_same : (l : Language) (sheet : Sheet) (s : Day) (name : PartName) (one other : List ℕ) (progress : Progress)
    (cells : List Cell)
    → next_sheet l sheet s (open_name name) one progress cells ≡ next_sheet l sheet s (open_name name) other progress cells
next_same l sheet s name one other progress [] = refl
next_same l sheet s name one other progress (cell ∷ cells) =
    ap (λ rows. filled (sheet_text l sheet texts.NEXT_STEP) (name_values name) ++ rows)
    (rows_same s one other progress (pieces 50 (cell ∷ cells)))

text_rows_same : (l : Language) (sheet : Sheet) (s : Day) (name : PartName) (one other : List ℕ) (body : List Cell)
    → text_rows l sheet s (open_name name) one body ≡ text_rows l sheet s (open_name name) other body
text_rows_same l sheet s name one other body =
    let first = take (first_sheet name.model) body in
    λ i. rows_same s one other beginning (pieces 50 first) i
    ++ next_same l sheet s name one other (progress_after beginning first) (drop (first_sheet name.model) body) i

start_same : (l : Language) (sheet : Sheet) (name : PartName) (work other : Work) → AskTheSame sheet work other
    → start_text l sheet (open_name name) work.start ≡ start_text l sheet (open_name name) other.start
start_same l RotorSend name work other same = ap (start_text l RotorSend (open_name name)) (same.start refl)
start_same l PinSend name work other same = refl
start_same l RotorReceive name work other same = refl
start_same l PinReceive name work other same = refl

-- cells that ask alike are the same on a worksheet
open_same_cases : (one other : Cell) (pressed : Bool) → AskAlike one other → one.is_pressed ≡ pressed
    → open_cell one ≡ open_cell other
open_same_cases one other true same is =
    ap (λ p. if p then record one { below = Open; mark = NoMark } else one) is
    ∙ (λ i. record { above = same.above i; below = Open; is_pressed = same.pressed i; mark = NoMark })
    ∙ sym (ap (λ p. if p then record other { below = Open; mark = NoMark } else other) (sym same.pressed ∙ is))
open_same_cases one other false same is = ap open_cell (same.copied is)

cells_same : (ones others : List Cell) → AllAskAlike ones others
    → cells_with LeftOpen ones ≡ cells_with LeftOpen others
cells_same [] [] same = refl
cells_same (one ∷ ones) (other ∷ others) same =
    let first = open_same_cases one other one.is_pressed same.0 refl in
    let rest = cells_same ones others same.1 in
    λ i. first i ∷ rest i
cells_same [] (other ∷ others) same = absurd same
cells_same (one ∷ ones) [] same = absurd same

as_many : (one other : List Cell) → cells_with LeftOpen one ≡ cells_with LeftOpen other → length one ≡ length other
as_many one other same =
    sym (length-map one (cell_with LeftOpen)) ∙ ap length same ∙ length-map other (cell_with LeftOpen)

module _ (l : Language) (sheet : Sheet) (s : Day) (name : PartName) (work other : Work)
    (same : AskTheSame sheet work other) where
  key : cells_with LeftOpen work.key ≡ cells_with LeftOpen other.key
  key = cells_same work.key other.key same.key

  body : cells_with LeftOpen work.body ≡ cells_with LeftOpen other.body
  body = cells_same work.body other.body same.body

  key_same : key_step l sheet s (open_name name) work ≡ key_step l sheet s (open_name name) other
  unfolding key_step
  key_same = λ i.
      filled (sheet_text l sheet texts.KEY_STEP) (name_values name)
      ++ windows_text l (is_converter name.model) (same.ground i) ++ sheet_text l sheet texts.KEY_WORDS
      ++ rows_after LeftOpen s (same.ground i) beginning (pieces 50 (key i))
      ++ sheet_text l sheet texts.KEY_STEP_END

  text_same : (warnings : Warnings)
      → text_step l sheet s (open_name name) warnings work ≡ text_step l sheet s (open_name name) warnings other
  unfolding text_step
  text_same warnings =
      let rows = text_rows_same l sheet s name work.start other.start (cells_with LeftOpen work.body)
      ∙ ap (text_rows l sheet s (open_name name) other.start) body in
      λ i.
      text_head l sheet name (as_many work.body other.body body i) ++ start_same l sheet name work other same i
      ++ warnings_text l sheet warnings ++ rows i

  hidden : (warnings : Warnings)
      → part_sheet l sheet s (open_name name) warnings work ≡ part_sheet l sheet s (open_name name) warnings other
  unfolding part_sheet
  hidden warnings = λ i.
      head_text l sheet name ++ day_key_text l s ++ legend l sheet LeftOpen
      ++ text_if warnings.letters_lost (sheet_text l sheet texts.LOST_LETTER)
      ++ key_same i ++ text_same warnings i ++ note l sheet name.model ++ SHEET_END.now

pub hide_results : WorksheetsHideResults
hide_results l sheet s name warnings work other shows same =
    subst (λ r. part_sheet l sheet s (record name { results = r }) warnings work
    ≡ part_sheet l sheet s (record name { results = r }) warnings other) (sym shows)
    (hidden l sheet s name work other same warnings)

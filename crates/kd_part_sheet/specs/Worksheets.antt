-- The law about worksheets: they don't tell which letters the machine gives.
use Rattle.std.specs.Prelude.{◌≡◌, IsFalse, IsTrue, List, [], ◌∷◌}
use Rattle.kd_state.specs.SheetDay.{Day}
use Rattle.kd_language.specs.declared.language.Language.{Language}
use Rattle.kd_pictures.specs.declared.results.Results.TheVariants.{LeftOpen}
use Rattle.kd_part_sheet.specs.declared.cells.Cell.{Cell}
use Rattle.kd_part_sheet.specs.declared.part_sheet.PartName.{PartName}
use Rattle.kd_part_sheet.specs.declared.part_sheet.Warnings.{Warnings}
use Rattle.kd_part_sheet.specs.declared.sheet.Sheet.{Sheet}
use Rattle.kd_part_sheet.specs.PartSheet.{part_sheet}
use Rattle.kd_part_sheet.specs.PartWork.{Work}
use Rattle.kd_part_sheet.specs.Sheet.{has_given_start}

-- The cells `one` and `other` ask the same of the operator. They have the same sign above the line to write on. Either
-- both letters are pressed, or neither is. If neither letter is pressed, the two cells are equal.
pub record AskAlike (one other : Cell) : Type 0 where
  pub above : one.above ≡ other.above
  pub pressed : one.is_pressed ≡ other.is_pressed
  pub copied : IsFalse one.is_pressed → one ≡ other

-- The two lists have equally many cells, and `AskAlike` holds for the two cells at each place.
abbrev pub AllAskAlike : List Cell → List Cell → Type 0
AllAskAlike [] [] = Unit {0}
AllAskAlike (one ∷ ones) (other ∷ others) = AskAlike one other × AllAskAlike ones others
AllAskAlike [] (other ∷ others) = ⊥
AllAskAlike (one ∷ ones) [] = ⊥

-- `work` and `other` have the same letters to set, to press and to copy. The letters that the machine gives may differ.
pub record AskTheSame (sheet : Sheet) (work other : Work) : Type 0 where
  pub ground : work.ground ≡ other.ground
  pub key : AllAskAlike work.key other.key
  pub start : IsTrue (has_given_start sheet) → work.start ≡ other.start
  pub body : AllAskAlike work.body other.body

-- A worksheet doesn't tell which letters the machine gives: whatever these letters are, the worksheet is the same.
abbrev pub WorksheetsHideResults : Type 0
WorksheetsHideResults =
    (l : Language) (sheet : Sheet) (s : Day) (name : PartName) (warnings : Warnings) (work other : Work)
    → name.results ≡ LeftOpen → AskTheSame sheet work other
    → part_sheet l sheet s name warnings work ≡ part_sheet l sheet s name warnings other

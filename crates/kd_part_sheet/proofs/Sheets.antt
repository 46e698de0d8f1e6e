-- The second sheet of paper.
use Rattle.std.proofs.Common.{◌≡◌, ℕ, ◌<◌, List, [], ◌∷◌, ◌++◌, length, arith, refl}
use Rattle.kd_state.specs.SheetDay.{Day}
use Rattle.kd_language.specs.declared.language.Language.{Language}
use Rattle.kd_language.specs.Template.{filled}
use Rattle.kd_part_sheet.specs.declared.cells.Cell.{Cell}
use Rattle.kd_part_sheet.specs.declared.part_sheet.PartName.{PartName}
use Rattle.kd_part_sheet.specs.declared.rows.Progress.{Progress}
use Rattle.kd_part_sheet.specs.declared.sheet.Sheet.{Sheet}
use Rattle.kd_part_sheet.specs.declared.texts.TheConstants.{NEXT_STEP}
use Rattle.kd_part_sheet.specs.Sheet.{sheet_text}
use Rattle.kd_part_sheet.specs.PartSheet.{name_values, next_sheet}
use Rattle.kd_part_sheet.specs.Rows.{pieces, rows_after}

pub next_sheet_some : (l : Language) (sheet : Sheet) (s : Day) (name : PartName) (start : List ℕ) (progress : Progress)
    (cells : List Cell) → 0 < length cells
    → next_sheet l sheet s name start progress cells
    ≡ filled (sheet_text l sheet NEXT_STEP) (name_values name) ++ rows_after name.results s start progress (pieces 50 cells)
next_sheet_some l sheet s name start progress [] some = absurd (omega arith)
next_sheet_some l sheet s name start progress (cell ∷ cells) some = refl

use Rattle.std.proofs.Common.{◌≡◌, take}
use Rattle.kd_part_sheet.specs.Cells.{cells_with}
use Rattle.kd_part_sheet.proofs.cells.cells_with.Given as goal

abbrev pub invariant-loop-cell : goal.invariant-loop-cell
invariant-loop-cell g l = l.shown.items ≡ cells_with l.results (take l.cell-index l.cells.items)

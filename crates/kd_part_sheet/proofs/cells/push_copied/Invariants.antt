use Rattle.std.proofs.Common.{◌≡◌, ◌++◌, map, take}
use Rattle.kd_part_sheet.specs.Cells.{copied}
use Rattle.kd_part_sheet.proofs.cells.push_copied.Given as goal

abbrev pub invariant-loop-letter : goal.invariant-loop-letter
invariant-loop-letter g l = l.cells.items ≡ l.fn.cells.items ++ map copied (take l.letter-index l.letters)

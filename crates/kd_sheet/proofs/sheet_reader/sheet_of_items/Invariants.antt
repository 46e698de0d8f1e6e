use Rattle.kd_sheet.proofs.ReadBack.Described.{IsMonthOf, drop, map, view}
use Rattle.kd_sheet.proofs.sheet_reader.sheet_of_items.Given as goal

abbrev pub invariant-loop-item : goal.invariant-loop-item
invariant-loop-item l = IsMonthOf (map view l.items) l.sheet (drop l.item-index (map view l.items))

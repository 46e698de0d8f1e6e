use Rattle.kd_sheet.proofs.ReadBack.Described.KeyValues.Steps.{drop, read_items, length, map, read_after, view, ◌≡◌}
use Rattle.kd_sheet.proofs.values.items.read_items.Given as goal

-- reading all items gives the same result as reading the rest of them after the values so far
abbrev pub invariant-loop-item : goal.invariant-loop-item
invariant-loop-item g l = record {
  count : length l.values.items ≡ l.item-index;
  read : read_items (g.T.FromItem.parse l.given) (map view l.items)
      ≡ read_after (g.T.FromItem.parse l.given) l.values.items (drop l.item-index (map view l.items));
}

use Rattle.kd_sheet.proofs.ReadBack.Described.KeyValues.Steps.{arith, read_after_none, read_after_more, rules, ◌∙◌}
use Rattle.kd_sheet.proofs.ReadBack.Described.KeyValues.Steps.{length, length-map, map, read_after_all, read_after_fault}
use Rattle.kd_sheet.proofs.ReadBack.Described.KeyValues.Steps.{refl, view, ◌≤◌}
use Rattle.kd_sheet.proofs.values.items.read_items.Goals as goal

pub loop-item-init : goal.loop-item-init
loop-item-init g c = grind (arith, read_after_none)

pub loop-item-preserved : goal.loop-item-preserved
loop-item-preserved g c = record {
  count = omega arith;
  read = c.loop-item.invariant.read ∙ rw c.push.ensures.items (rw (← c.as_slice.ensures.value)
      (read_after_more (g.T.FromItem.parse c.args.given.now) _ _ _ c.loop-item-test.true c.item-item.is _ _
      c.in_ok-value.ensures));
}

pub returns-in_err-value-clause-value : goal.returns-in_err-value-clause-value
returns-in_err-value-clause-value g c =
    rw (c.loop-item.invariant.read ∙ read_after_fault (g.T.FromItem.parse c.args.given.now) _ _ _ c.loop-item-test.true
    c.item-item.is _ _ (rw c.as_slice.ensures.value at c.in_err-value.ensures)) (search rules)

pub returns-clause-value : goal.returns-clause-value
returns-clause-value g c =
    let items = c.args.items.now in
    let done : length (map view items) ≤ c.loop-item.item-index = omega (arith, length-map items view) in
    rw (c.loop-item.invariant.read, read_after_all (g.T.FromItem.parse c.args.given.now) _ _ _ done) refl

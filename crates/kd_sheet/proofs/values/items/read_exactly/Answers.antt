use Rattle.kd_sheet.proofs.ReadBack.Described.KeyValues.Steps.{arith, array-fits, array-no_items, array-unfit, eq-eqb}
use Rattle.kd_sheet.proofs.ReadBack.Described.KeyValues.Steps.{length, length-map, map, nat_eq, ne_eqb, rules, sym}
use Rattle.kd_sheet.proofs.ReadBack.Described.KeyValues.Steps.{view, ◌≡◌, ◌≢◌}
use Rattle.kd_sheet.proofs.values.items.read_exactly.Goals as goal

pub returns-clause-value : goal.returns-clause-value
returns-clause-value g c =
    let items = c.in_ok-items.items.now.items in
    let same : c.args.count ≡ length (map view items) = omega (arith, length-map items view) in
    rw (array-fits _ (nat_eq c.args.count) (g.T.FromItem.parse c.args.given.now) _ _ c.in_ok-items.ensures
    (eq-eqb _ _ same)) (rw c.deref.ensures.value at c.read_items.ensures.value)

pub returns-clause-count : goal.returns-clause-count
returns-clause-count g c =
    let same : length c.deref.result.now ≡ c.args.count = omega arith in rw same at c.read_items.ensures.count

pub returns-in_err-items-clause-value : goal.returns-in_err-items-clause-value
returns-in_err-items-clause-value g c = rw (array-no_items _ _ _ _ _ c.in_err-items.ensures) (search rules)

pub returns-then-len-count-clause-value : goal.returns-then-len-count-clause-value
returns-then-len-count-clause-value g c =
    let items = c.in_ok-items.items.now.items in
    let other : c.args.count ≢ length (map view items) = omega (arith, length-map items view) in
    sym (array-unfit _ (nat_eq c.args.count) (g.T.FromItem.parse c.args.given.now) _ _ c.in_ok-items.ensures
    (ne_eqb _ _ other))

use Rattle.kd_sheet.proofs.ReadBack.Described.KeyValues.Steps.{Ok, arith, array-fits, array-no_items, array-unfit}
use Rattle.kd_sheet.proofs.ReadBack.Described.KeyValues.Steps.{le-leb, length, length-map, map, nat_le, rules, sym, view}
use Rattle.kd_sheet.proofs.ReadBack.Described.KeyValues.Steps.{◌<◌, ◌≤◌}
use Rattle.std.proofs.lemmas.Bool.{lt-leb}
use Rattle.kd_sheet.proofs.values.items.read_up_to.Goals as goal

pub returns : goal.returns
returns g c =
    let items = c.in_ok-items.items.now.items in
    let few : length (map view items) ≤ g.row.N = omega (arith, length-map items view) in
    rw (array-fits c.args.key (λ n. nat_le n g.row.N) (g.T.FromItem.parse tt) (Ok (view c.args.value.now)) _
    c.in_ok-items.ensures (le-leb _ _ few)) (rw c.deref.ensures.value at c.read_items.ensures.value)

pub returns-in_err-items : goal.returns-in_err-items
returns-in_err-items g c =
    rw (array-no_items c.args.key (λ n. nat_le n g.row.N) (g.T.FromItem.parse tt) (Ok (view c.args.value.now)) _
    c.in_err-items.ensures) (search rules)

pub returns-then-len : goal.returns-then-len
returns-then-len g c =
    let items = c.in_ok-items.items.now.items in
    let many : g.row.N < length (map view items) = omega (arith, length-map items view) in
    sym (array-unfit c.args.key (λ n. nat_le n g.row.N) (g.T.FromItem.parse tt) (Ok (view c.args.value.now)) _
    c.in_ok-items.ensures (lt-leb _ _ many))

use Rattle.kd_assign.proofs.AllRows.{cost_at_most}
use Rattle.kd_assign.proofs.Differences.{IsSmall-cost, SFits-difference, difference-exact}
use Rattle.kd_assign.proofs.Prelude.{cases_eq, common_steps, cost_at, ints, length-set, price_at}
use Rattle.std.proofs.Common.{arith, get_or, inl, inr, pos}
use Rattle.kd_assign.proofs.columns.row_prices.Goals as goal

pub overflow_sub-rows : goal.overflow_sub-rows
overflow_sub-rows g c =
    let column = get_or c.args.to.now c.loop-row.row 0 in
    let inside = c.requires.one_to_one.in_range c.loop-row.row 0 (omega arith) in
    let low = c.requires.low column (omega (arith, inside)) in
    let high = c.requires.high column (omega (arith, inside)) in
    let cost = cost_at_most c.args.cost.now c.requires.costs c.loop-row.row column in
    rw c.from.ensures
    (SFits-difference (pos (cost_at c.args.cost.now c.loop-row.row column)) (price_at c.args.prices.now column)
    (IsSmall-cost _ cost) (low, omega (arith, ints, high)))

pub loop-row-preserved : goal.loop-row-preserved
loop-row-preserved g c =
    let column = get_or c.args.to.now c.loop-row.row 0 in
    let inside = c.requires.one_to_one.in_range c.loop-row.row 0 (omega arith) in
    let low = c.requires.low column (omega (arith, inside)) in
    let high = c.requires.high column (omega (arith, inside)) in
    let cost = cost_at_most c.args.cost.now c.requires.costs c.loop-row.row column in
    let exact =
    difference-exact (pos (cost_at c.args.cost.now c.loop-row.row column)) (price_at c.args.prices.now column)
    (IsSmall-cost _ cost) (low, omega (arith, ints, high)) in
    rw (c.from.ensures, exact) (record {
      len = rw length-set c.loop-row.invariant.len;
      priced = λ i h. elim (cases_eq i c.loop-row.row) [
        | inl same ↦ rw same (grind (arith, common_steps))
        | inr other ↦ grind (arith, common_steps, c.loop-row.invariant.priced i)
      ];
    })

use Rattle.kd_assign.proofs.ScanCounts.{scans_of_trees, scans_of_trees-all, scans_of_trees-most}
use Rattle.kd_assign.proofs.Prelude.{scans_of_tree}
use Rattle.kd_assign.proofs.AllRows.{columns_at_most, fits, is_least, price_sum_is, rows_at_most}
use Rattle.std.proofs.Common.{add-one, ap, arith, pos, rules, sym, ℕ, ◌*◌, ◌+◌, ◌∙◌, ◌≤◌}
use Rattle.kd_assign.proofs.solution.assign.Goals as goal

least_more : (n row old new : ℕ) → n * row ≤ old → old + n ≤ new → n * (row + 1) ≤ new
least_more n row old new least more = omega arith

most_more : (n row old new : ℕ) → old ≤ scans_of_trees n row → new ≤ old + scans_of_tree n (row + 1)
    → new ≤ scans_of_trees n (row + 1)
most_more n row old new most more = grind (arith, add-one)

pub loop-row-preserved : goal.loop-row-preserved
loop-row-preserved g c =
    let so_far = c.loop-row.invariant in
    let call = c.assign_row.ensures in record {
      len = call.len;
      least_scans = least_more g.row.N c.loop-row.row _ _ so_far.least_scans call.least_scans;
      most_scans = most_more g.row.N c.loop-row.row _ _ so_far.most_scans call.most_scans;
      solved = call.solved;
    }

pub columns_of_rows-to-requires : goal.columns_of_rows-to-requires
columns_of_rows-to-requires g c =
    let solved = c.loop-row.invariant.solved in
    (search rules, (search rules, (c.requires.few, (solved.rows, λ i h. solved.seated i (omega arith)))))

pub assign_row-requires : goal.assign_row-requires
assign_row-requires g c = grind (arith, scans_of_trees-most)

pub returns-clause-price_sum : goal.returns-clause-price_sum
returns-clause-price_sum g c =
    price_sum_is _ _ c.loop-row.auto.row-end c.loop-row.invariant.solved c.told-cost c.loop-row.invariant.len
    c.row_prices-row.ensures.len c.columns_of_rows-to.ensures.len c.columns_of_rows-to.ensures.columns
    c.row_prices-row.ensures.prices c.columns_of_rows-to.ensures.one_to_one
    ∙ ap pos (sym c.assignment_cost-total.ensures)

pub returns-clause-fits : goal.returns-clause-fits
returns-clause-fits g c =
    fits _ _ c.loop-row.auto.row-end c.loop-row.invariant.solved c.told-cost c.loop-row.invariant.len
    c.row_prices-row.ensures.len c.columns_of_rows-to.ensures.len c.columns_of_rows-to.ensures.columns
    c.row_prices-row.ensures.prices

pub returns-clause-row_prices : goal.returns-clause-row_prices
returns-clause-row_prices g c =
    rows_at_most _ _ c.loop-row.auto.row-end c.loop-row.invariant.solved c.told-cost c.loop-row.invariant.len
    c.row_prices-row.ensures.len c.columns_of_rows-to.ensures.len c.columns_of_rows-to.ensures.columns
    c.row_prices-row.ensures.prices c.requires.costs c.columns_of_rows-to.ensures.one_to_one

pub returns-clause-col_prices : goal.returns-clause-col_prices
returns-clause-col_prices g c =
    columns_at_most _ _ c.loop-row.auto.row-end c.loop-row.invariant.solved c.told-cost c.loop-row.invariant.len
    c.row_prices-row.ensures.len c.columns_of_rows-to.ensures.len c.columns_of_rows-to.ensures.columns
    c.row_prices-row.ensures.prices

pub returns-clause-cheapest : goal.returns-clause-cheapest
returns-clause-cheapest g c = record {
  one_to_one = c.columns_of_rows-to.ensures.one_to_one;
  cost_is = sym c.assignment_cost-total.ensures;
  least =
      is_least _ _ c.loop-row.auto.row-end c.loop-row.invariant.solved c.told-cost c.loop-row.invariant.len
      c.row_prices-row.ensures.len c.columns_of_rows-to.ensures.len c.columns_of_rows-to.ensures.columns
      c.row_prices-row.ensures.prices c.columns_of_rows-to.ensures.one_to_one
      c.assignment_cost-total.ensures;
}

pub returns-clause-scans : goal.returns-clause-scans
returns-clause-scans g c = record { least = grind arith; most = grind (arith, scans_of_trees-all g.row.N) }

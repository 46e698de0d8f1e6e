use Rattle.kd_assign.proofs.AllRows.{cost_at_most}
use Rattle.kd_assign.proofs.Differences.{sum-exact}
use Rattle.kd_assign.proofs.Prelude.{cases_eq, sum_by_more}
use Rattle.std.proofs.Common.{arith, inl, inr, ℕ, ◌+◌, ◌<◌, ◌∙◌, ◌≢◌, ◌≤◌}
use Rattle.kd_assign.proofs.nearest.Nearest.join.Goals as goal

at_most_itself : (k : ℕ) → k ≤ k
at_most_itself k = omega arith

before : (j k : ℕ) → j < k + 1 → j ≢ k → j < k
before j k h other = omega arith

apart : (j k : ℕ) → k + 1 ≤ j → j ≢ k
apart j k h same = omega arith

after : (j k : ℕ) → k + 1 ≤ j → k ≤ j
after j k h = omega arith

pub loop-column-preserved : goal.loop-column-preserved
loop-column-preserved g c =
    let so_far = c.loop-column.invariant in
    let column = c.loop-column.column in
    let call = c.compare.ensures in
    let cost = cost_at_most c.args.cost.now c.requires.costs c.args.row column in
    record {
      rows = call.rows;
      ceilings = call.ceilings;
      compared = record {
        at = λ j h. elim (cases_eq j column) [
          | inl same ↦
              rw same (rw (
                c.from.ensures,
                sum-exact c.args.level _ c.ranges.level c.requires.low c.requires.high cost,
                so_far.still_rows column (at_most_itself column),
                so_far.still_ceilings column (at_most_itself column),
              )
              at call.compared)
          | inr other ↦
              rw (call.other_rows j other, call.other_ceilings j other) (so_far.compared.at j (before j column h other))
        ];
      };
      still_rows = λ j h. call.other_rows j (apart j column h) ∙ so_far.still_rows j (after j column h);
      still_ceilings = λ j h. call.other_ceilings j (apart j column h) ∙ so_far.still_ceilings j (after j column h);
      counted = grind (arith, sum_by_more);
    }

use Rattle.{std.proofs.Common.{◌≡◌, ◌+◌, ◌*◌, ◌≤◌, drop}, kd_assign.specs.Assignment.assignment_cost}
use Rattle.kd_assign.proofs.columns.assignment_cost.Given as goal

abbrev pub invariant-loop-row : goal.invariant-loop-row
invariant-loop-row g l = record {
  so_far : l.total + assignment_cost (drop l.row l.cost) (drop l.row l.to) ≡ assignment_cost l.cost l.to;
  few : l.total ≤ 4 * l.row;
}
